pub mod FaultNumbers
pub mod Laws
pub mod Source
pub mod Wrapping
pub mod internal
