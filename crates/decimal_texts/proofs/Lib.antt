pub mod LastDigits
pub mod Lengths
