pub mod Graph
pub mod NodeMarks
pub mod Passages
pub mod Ring
pub mod RowFlood
pub mod RowWords
