pub mod Acting
pub mod Among
pub mod Choosing
pub mod Least
pub mod Meeting
pub mod Sorting
