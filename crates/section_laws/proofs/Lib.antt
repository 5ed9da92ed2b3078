pub mod ShadedColumns
pub mod CutDrawing
pub mod ShadedUnion
pub mod SectionDrawing
pub mod ChosenPlaces
pub mod AreaDrawing
pub mod CutGaps
pub mod LeftCells
