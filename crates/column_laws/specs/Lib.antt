pub mod GridColumns
pub mod GridPanels
pub mod DrawnDemands
pub mod SmallForcing
pub mod Undecided
