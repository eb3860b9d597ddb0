pub mod Entries
pub mod Finds
pub mod Numbers
pub mod Places
pub mod Total
