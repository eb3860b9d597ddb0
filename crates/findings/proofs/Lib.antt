mod Marked
mod Placing
