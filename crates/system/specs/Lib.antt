pub mod Expression
pub mod Residual
pub mod Translation
pub mod Named
pub mod internal
