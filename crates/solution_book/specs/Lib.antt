pub mod Editions
pub mod Pages
pub mod Rule
pub mod Batches
