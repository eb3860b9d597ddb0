pub mod ResidualTree
pub mod OneRun
pub mod Ruled
pub mod internal
