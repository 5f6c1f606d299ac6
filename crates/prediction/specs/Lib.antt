pub mod Predict
pub mod Steps
