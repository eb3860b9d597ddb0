pub mod public
mod AnsweringLemmas
mod ExplainingLemmas
mod TellingLemmas
