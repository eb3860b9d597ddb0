pub mod public
mod Backward
mod Counting
mod GoingOut
mod Nearest
mod Passing
mod Returning
mod Running
mod Targets
