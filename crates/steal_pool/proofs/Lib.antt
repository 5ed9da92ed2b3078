pub mod Sums
pub mod Passes
pub mod SeatLists
pub mod Pools
