pub mod Canonicals
pub mod Stands
