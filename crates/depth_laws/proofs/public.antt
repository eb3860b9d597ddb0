pub mod Chains
pub mod EqualRaces
pub mod EqualRuns
pub mod OneState
