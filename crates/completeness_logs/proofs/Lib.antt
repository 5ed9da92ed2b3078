pub mod Trees
pub mod Listed
pub mod SplitMarks
pub mod Matching
pub mod NotchedBar
