pub mod Laws
pub mod Refusal
pub mod Uses
pub mod internal
