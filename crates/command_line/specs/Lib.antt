pub mod Adapter
pub mod Running
pub mod Serving
pub mod Shells
pub mod internal
