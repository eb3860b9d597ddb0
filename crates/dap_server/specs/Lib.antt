pub mod Heard
pub mod Kinds
pub mod Objects
pub mod Sent
pub mod Session
pub mod Short
pub mod internal
