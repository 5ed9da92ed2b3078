pub mod Least
pub mod LineCells
pub mod Steps
pub mod Chains
pub mod Handled
pub mod OneNumber
pub mod Doubting
