pub mod public
mod Around
mod Listing
mod Numbers
mod Unfolding
