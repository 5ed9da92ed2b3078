pub mod Pages
pub mod Answers
pub mod Readers
pub mod Owed
pub mod Endings
pub mod Searched
pub mod Solve
