mod GrammarTokens
mod OwnNames
mod PartLemmas
mod WholeLemmas
