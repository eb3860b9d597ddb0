pub mod Measure
pub mod Rule
pub mod Sharing
