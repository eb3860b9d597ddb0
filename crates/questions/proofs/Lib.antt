pub mod public
mod WhyLemmas
