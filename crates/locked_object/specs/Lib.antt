pub mod Guards
pub mod Keepers
pub mod Lock
pub mod Passes
pub mod Sharing
