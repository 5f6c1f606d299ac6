pub mod Backward
pub mod Calls
pub mod Steps
