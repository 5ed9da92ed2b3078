pub mod Handed
pub mod Answers
pub mod GoingOn
pub mod Stopped
