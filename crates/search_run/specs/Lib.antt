pub mod Shared
pub mod HandedOut
pub mod Worked
