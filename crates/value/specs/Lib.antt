pub mod Comparison
pub mod Word
