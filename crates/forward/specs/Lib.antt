pub mod Forward
pub mod Steps
