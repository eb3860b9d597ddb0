mod Agreeing
mod Cuts
mod Neighbours
