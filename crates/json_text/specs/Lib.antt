pub mod Json
pub mod Reading
pub mod Strings
pub mod Values
