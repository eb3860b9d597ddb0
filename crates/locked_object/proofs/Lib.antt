mod Guarding
mod Histories
mod Locking
