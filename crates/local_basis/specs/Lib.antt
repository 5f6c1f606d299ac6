pub mod Meshes
pub mod Fours
