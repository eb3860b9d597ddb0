pub mod Lines
pub mod Shown
pub mod Spots
pub mod Wanted
pub mod internal
