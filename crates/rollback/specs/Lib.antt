pub mod Rollbacks
pub mod internal
