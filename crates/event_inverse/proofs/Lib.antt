pub mod public
mod Moved
mod Without
