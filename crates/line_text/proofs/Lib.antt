pub mod public
mod ChoiceLemmas
mod DigitLemmas
