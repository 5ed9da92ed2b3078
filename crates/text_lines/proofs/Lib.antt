pub mod NumberWords
pub mod Cuts
pub mod FirstLines
pub mod Spaces
