pub mod CutLemmas
pub mod KeywordLemmas
pub mod NumberLemmas
pub mod OneOperand
