pub mod Looking
pub mod Beside
pub mod Forced
pub mod Closing
pub mod Doubting
