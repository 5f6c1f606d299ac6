pub mod Floats
pub mod Lines
