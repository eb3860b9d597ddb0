pub mod ArmParts
pub mod Hashing
pub mod SharedPrefix
pub mod Variables
