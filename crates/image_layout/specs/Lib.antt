pub mod Trailer
pub mod Steps
