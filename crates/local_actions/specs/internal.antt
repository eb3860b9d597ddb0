pub mod At
pub mod Listed
pub mod Over
pub mod Walk
