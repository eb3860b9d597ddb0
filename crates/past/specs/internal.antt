pub mod Blocks
pub mod Lanes
pub mod Near
pub mod Swept
