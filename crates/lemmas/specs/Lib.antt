pub mod Lists
pub mod Bits
pub mod Chains
pub mod Truth
pub mod Counts
