pub mod Beginnings
pub mod Seating
