pub mod Lanes
pub mod Styles
pub mod Meets
