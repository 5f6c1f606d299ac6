pub mod Gradient
pub mod Steps
