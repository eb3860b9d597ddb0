pub mod Glance
pub mod Idle
pub mod internal
