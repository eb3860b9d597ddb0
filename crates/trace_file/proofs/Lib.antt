mod EventLemmas
mod FaultLemmas
mod LawLemmas
mod LineLemmas
mod LoadLemmas
mod LongLemmas
mod OrderLemmas
mod RootLemmas
mod SaveLemmas
pub mod public
mod Orders
mod Placing
mod Queues
mod Taking
mod Telling
mod Waits
