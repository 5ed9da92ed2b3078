pub mod ChosenSums
pub mod PlaneLines
