pub mod Logs
pub mod LogTexts
pub mod SplitMarks
pub mod SmallLogs
