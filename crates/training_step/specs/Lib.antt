pub mod Step
pub mod Stages
