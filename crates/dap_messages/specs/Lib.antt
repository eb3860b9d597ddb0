pub mod Arguments
pub mod Json
pub mod Kinds
pub mod Messages
pub mod Notes
pub mod Requests
pub mod Written
pub mod internal
