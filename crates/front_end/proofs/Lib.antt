mod AcceptLemmas
mod MakingLemmas
mod SystemLaws
