pub mod Touched
pub mod Marks
