pub mod BegunRuns
pub mod Causes
pub mod CoordinateBounds
pub mod GridParts
pub mod GridStyles
pub mod InOrder
pub mod ShownPositions
pub mod ZeroCoordinate
