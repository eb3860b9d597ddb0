pub mod Common
pub mod Entries
pub mod OrderLaws
