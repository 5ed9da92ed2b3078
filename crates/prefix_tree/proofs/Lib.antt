pub mod Stored
pub mod Trees
pub mod Ways
