pub mod Frames
pub mod Given
pub mod Scopes
pub mod Stack
pub mod Threads
pub mod Unfolded
pub mod Variables
pub mod internal
