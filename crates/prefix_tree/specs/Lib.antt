pub mod Places
pub mod Nodes
pub mod Alike
