mod Counted
mod Tellings
