pub mod public
mod BufferLemmas
mod LineLemmas
