mod Blocks
mod Ordered
mod Paths
mod Placed
mod Stops
