pub mod public
mod AcceptLemmas
mod AskLemmas
mod CountLemmas
mod EndLemmas
mod HeldLemmas
mod HoldingLemmas
mod OneThingLemmas
mod PieceLemmas
mod SessionLemmas
