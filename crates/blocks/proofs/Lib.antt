pub mod BlockComponents
