pub mod Fields
pub mod OneStep
pub mod Waiting
