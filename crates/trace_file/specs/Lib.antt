pub mod FaultNumbers
pub mod Laws
pub mod Loading
pub mod TraceText
pub mod internal
pub mod Canonical
pub mod CanonicalLaws
