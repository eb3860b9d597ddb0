pub mod Places
pub mod Order
pub mod Text
pub mod Reading
pub mod Laws
pub mod internal
