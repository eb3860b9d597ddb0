pub mod Choosing
pub mod Entering
pub mod Histories
pub mod Sites
pub mod Sorting
