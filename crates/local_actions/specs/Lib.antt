pub mod Actions
pub mod View
pub mod Walk
pub mod internal
