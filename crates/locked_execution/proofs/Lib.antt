pub mod public
mod BranchReplies
mod BranchSteps
mod CallCounts
mod CrewLaws
mod Crossing
mod ExpressionCrossing
mod FrameLaws
mod HistoryLaws
mod LineLaws
mod MachineCrossing
mod OneReplies
mod SessionLists
mod SomeReplies
mod SystemCrossing
mod TreeCrossing
mod WorkLemmas
