pub mod Corners
pub mod Strokes
pub mod LineStrokes
pub mod Joined
pub mod Sweeps
pub mod Missing
