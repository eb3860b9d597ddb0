pub mod Viable
pub mod internal
