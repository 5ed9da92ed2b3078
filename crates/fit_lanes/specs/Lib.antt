pub mod Cuts
pub mod Sights
pub mod Points
pub mod Busy
pub mod Tests
pub mod Drawn
pub mod Wanted
pub mod Kept
