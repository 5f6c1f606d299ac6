pub mod Numbers
pub mod Walks
pub mod Founds
pub mod Faults
pub mod Frames
