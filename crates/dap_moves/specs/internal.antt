pub mod Rolling
pub mod StopParts
pub mod Turning
