pub mod Barred
pub mod Jobs
pub mod Rows
pub mod Rules
pub mod Said
pub mod SmallWords
pub mod Words
