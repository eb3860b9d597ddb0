pub mod public
mod BackSteps
mod Children
mod CommandCodes
mod Exactly
mod Finding
mod Lent
mod OneByOne
mod OneMore
mod Passing
mod Ports
mod Rows
mod Walked
