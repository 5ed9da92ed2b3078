pub mod LogLines
pub mod Checks
pub mod Refusals
pub mod Walks
