pub mod Spellings
pub mod TextPieces
pub mod Fields
pub mod PlainFields
pub mod LinesRead
pub mod Lengths
pub mod Renumbered
pub mod Written
