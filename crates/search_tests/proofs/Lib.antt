pub mod ToldTrees
mod Authors
mod Solved
