pub mod Comparing
pub mod Meanings
pub mod Meets
pub mod Passed
pub mod Sides
pub mod Walk
