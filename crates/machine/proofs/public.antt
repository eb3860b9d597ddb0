pub mod Branches
pub mod Entries
pub mod Gathering
pub mod HeadlineLaws
pub mod MarkLaws
pub mod Standing
