pub mod Parts
pub mod Next
