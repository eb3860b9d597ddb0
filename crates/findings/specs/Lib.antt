pub mod Heads
pub mod MarkedPlaces
pub mod Marking
