pub mod Edges
pub mod Summed
pub mod Parts
