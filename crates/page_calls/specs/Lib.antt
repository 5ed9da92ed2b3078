pub mod Pages
pub mod Those
