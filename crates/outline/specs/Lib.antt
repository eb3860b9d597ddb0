pub mod Branches
pub mod EndTable
pub mod Ends
pub mod Names
pub mod OutlineText
pub mod Outlined
pub mod internal
