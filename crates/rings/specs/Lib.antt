pub mod FirstRing
pub mod Partners
pub mod Rings
pub mod internal
