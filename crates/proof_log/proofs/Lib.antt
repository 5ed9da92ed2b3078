pub mod Lighter
pub mod SomeTrees
pub mod LineTexts
pub mod Begun
pub mod NextEntries
pub mod Walks
