pub mod Edges
pub mod Turns
pub mod Layers
pub mod Answers
