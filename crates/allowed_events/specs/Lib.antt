pub mod ReadyBelow
pub mod internal
