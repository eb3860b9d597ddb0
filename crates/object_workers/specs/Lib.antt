pub mod Dealt
pub mod Runs
pub mod internal
