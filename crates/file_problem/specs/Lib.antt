pub mod Cuts
pub mod SmallBoxes
pub mod Inputs
