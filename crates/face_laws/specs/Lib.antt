pub mod SmallFaces
pub mod GridRounds
pub mod GridFaces
