pub mod Pictures
pub mod internal
