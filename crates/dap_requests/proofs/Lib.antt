pub mod public
mod Choosing
mod Denying
mod Forward
mod Lines
mod Listing
mod Moving
mod Placed
mod Reading
mod Setting
mod Trimming
