pub mod CallParts
pub mod Pendings
pub mod Starts
