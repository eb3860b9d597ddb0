pub mod Grown
pub mod Laws
pub mod View
pub mod internal
