pub mod CommandParts
pub mod Judged
pub mod Least
pub mod Owed
pub mod Scopes
