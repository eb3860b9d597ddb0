pub mod Deepening
pub mod Placing
