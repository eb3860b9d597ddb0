pub mod CommandPlaces
pub mod Laws
pub mod LinesBegun
pub mod SystemBranches
pub mod TakenArms
pub mod internal
