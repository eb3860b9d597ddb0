pub mod public
mod First
mod Same
