pub mod Succession
pub mod NodeMarks
pub mod SmallRounds
