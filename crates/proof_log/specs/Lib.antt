pub mod Few
pub mod Lines
pub mod Walks
pub mod Weights
pub mod Writing
