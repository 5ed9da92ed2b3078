pub mod Pages
mod Known
mod Parts
