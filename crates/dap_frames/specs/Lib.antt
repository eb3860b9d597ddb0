pub mod Frames
pub mod Header
pub mod Laws
pub mod Unframing
