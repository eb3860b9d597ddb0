pub mod Accepting
pub mod FaultNumbers
pub mod Laws
pub mod Wrapping
