pub mod Laws
pub mod Past
pub mod PastText
pub mod internal
