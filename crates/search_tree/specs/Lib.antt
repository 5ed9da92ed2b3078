pub mod Walk
pub mod Opened
pub mod Rest
pub mod BlockPaths
