pub mod Those
