pub mod NotAsked
pub mod OneLine
pub mod Owing
pub mod Telling
