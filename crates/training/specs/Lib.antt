pub mod Train
pub mod Stages
