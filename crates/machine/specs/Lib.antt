pub mod AtMachine
pub mod Branching
pub mod Breakpoints
pub mod Headline
pub mod Marks
pub mod Results
pub mod internal
