pub mod AtBench
pub mod Does
pub mod Laws
pub mod Tidied
pub mod Words
pub mod internal
