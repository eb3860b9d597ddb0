pub mod public
mod NeverMemory
mod SetLines
mod Sites
mod Stepped
mod Withouts
