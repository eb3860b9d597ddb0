pub mod Counting
pub mod Crossing
pub mod Gathering
