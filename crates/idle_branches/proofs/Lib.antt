mod BehindLemmas
mod ChainLemmas
mod FitsLemmas
mod GatherLemmas
mod GiverLemmas
mod GlanceLemmas
mod IdleLemmas
mod SightLemmas
