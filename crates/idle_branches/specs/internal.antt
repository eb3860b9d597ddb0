pub mod Behind
pub mod Gathered
pub mod Gathering
pub mod Known
pub mod Sights
