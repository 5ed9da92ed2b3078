pub mod PageTexts
pub mod Gained
pub mod Next
pub mod KeptCalls
