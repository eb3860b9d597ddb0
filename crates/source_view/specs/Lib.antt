pub mod View
pub mod internal
