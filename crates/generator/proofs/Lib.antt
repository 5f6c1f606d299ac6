pub mod Halves
pub mod Squares
pub mod Once
pub mod Range
pub mod Steps
pub mod Rounded
pub mod Nearest
