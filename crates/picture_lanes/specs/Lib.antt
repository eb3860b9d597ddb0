pub mod Calls
pub mod Ground
pub mod Lanes
pub mod Ports
pub mod Walk
pub mod Written
pub mod internal
