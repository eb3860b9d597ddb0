pub mod Clashes
pub mod Numbers
pub mod Told
