pub mod Players
pub mod Session
