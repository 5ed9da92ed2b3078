pub mod Askings
pub mod SessionLines
pub mod Sessions
pub mod Tales
