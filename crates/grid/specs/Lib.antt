pub mod Positions
pub mod AxisCoordinates
