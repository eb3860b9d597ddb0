pub mod Calls
pub mod Description
pub mod Enumerations
pub mod Lines
pub mod Telling
pub mod Told
pub mod internal
