pub mod Loss
pub mod Steps
