pub mod AskedLists
pub mod BackLaws
pub mod BridgeLaws
pub mod Unchanged
