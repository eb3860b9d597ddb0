pub mod Counts
pub mod SpotView
pub mod Stands
pub mod internal
