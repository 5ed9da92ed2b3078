pub mod Plain
pub mod Files
pub mod Sheets
pub mod GridRuns
pub mod SmallFiles
