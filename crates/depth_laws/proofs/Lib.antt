pub mod public
mod Alike
mod CauseChains
mod InLanes
