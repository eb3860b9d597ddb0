pub mod Accepted
pub mod Grammar
pub mod Input
pub mod Offsets
pub mod Rules
pub mod Sentences
pub mod Trees
pub mod internal
