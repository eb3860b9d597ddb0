pub mod public
mod Showing
mod Written
