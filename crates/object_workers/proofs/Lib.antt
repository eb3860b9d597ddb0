pub mod public
mod Gathering
mod Numbers
