mod BodyOver
mod Leftover
mod InOneOrder
mod RingOfState
mod HelpsEach
mod LackLaws
mod HeldPlaces
mod OneTold
