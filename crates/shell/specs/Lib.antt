pub mod Asking
pub mod Beginning
pub mod Laws
pub mod Lines
pub mod Taken
pub mod internal
