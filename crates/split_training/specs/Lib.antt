pub mod Accumulating
pub mod Applying
pub mod Stages
