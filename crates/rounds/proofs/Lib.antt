pub mod Runs
pub mod Marked
pub mod Tracing
pub mod Traced
pub mod SomeRound
pub mod OneList
