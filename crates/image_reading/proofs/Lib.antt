pub mod Chunks
pub mod Answers
pub mod Lengths
pub mod Numbers
pub mod Passed
pub mod Stages
pub mod Parts
pub mod Determined
