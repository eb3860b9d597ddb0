pub mod Again
pub mod Numbering
pub mod Sleeping
pub mod Spelled
