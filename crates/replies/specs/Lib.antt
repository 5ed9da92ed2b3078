pub mod Status
pub mod Writings
