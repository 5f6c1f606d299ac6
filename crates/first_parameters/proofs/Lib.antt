pub mod Draws
pub mod Edges
pub mod Parts
pub mod Walks
