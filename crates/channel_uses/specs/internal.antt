pub mod Located
pub mod Parts
