pub mod Moved
pub mod Reverted
