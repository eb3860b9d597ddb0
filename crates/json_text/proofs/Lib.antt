pub mod public
mod OneValue
mod Plain
mod ReadBack
