pub mod Among
pub mod Body
pub mod Held
pub mod Helps
pub mod LackTests
