pub mod Answer
pub mod BySign
pub mod Nests
pub mod Parts
pub mod Readers
pub mod Reading
pub mod Reads
