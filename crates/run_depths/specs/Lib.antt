pub mod Depths
pub mod Races
pub mod Since
pub mod internal
