pub mod Touching
pub mod Marking
pub mod Rows
pub mod Fours
pub mod Layers
