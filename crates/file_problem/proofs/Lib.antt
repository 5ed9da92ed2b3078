pub mod Grids
pub mod Problems
pub mod Faults
