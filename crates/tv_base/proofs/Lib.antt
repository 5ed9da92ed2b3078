pub mod Told
pub mod WrittenPieces
