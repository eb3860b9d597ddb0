mod Insertions
mod HashLemmas
