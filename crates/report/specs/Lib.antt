pub mod Texts
pub mod FaultText
pub mod SmallTexts
pub mod Volumes
pub mod PlaneTexts
