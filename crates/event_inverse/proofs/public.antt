pub mod FromOpening
pub mod Moving
pub mod Neighbours
pub mod TidyRuns
pub mod Undoing
