pub mod Walks
pub mod OpenedPrefixes
pub mod StatedOrder
pub mod SearchEnds
pub mod NextPrefixes
pub mod Implied
pub mod Marked
pub mod ProblemTrees
