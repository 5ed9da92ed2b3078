pub mod Words
pub mod Authors
