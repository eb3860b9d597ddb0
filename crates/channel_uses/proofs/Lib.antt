pub mod public
mod After
mod Finding
mod LeafLaws
mod Locations
mod OnChannel
mod OnWalks
mod Parts
mod Processes
mod Searches
mod Stems
