pub mod Answering
pub mod Drawing
pub mod Explained
pub mod FaultLine
pub mod Kept
pub mod Used
pub mod Working
pub mod internal
