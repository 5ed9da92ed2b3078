pub mod Further
pub mod Layers
