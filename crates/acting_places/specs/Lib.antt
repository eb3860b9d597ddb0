pub mod Branches
pub mod Lines
