pub mod public
mod BucketLemmas
mod CommentLemmas
mod FrontLemmas
mod KindLemmas
mod LineLemmas
mod MarkLemmas
mod PieceLemmas
mod ReadingLemmas
mod SymbolLemmas
mod UniqueLemmas
mod ValueLemmas
