pub mod History
pub mod Kept
pub mod Steps
pub mod Seats
