pub mod Others
pub mod Parts
pub mod internal
