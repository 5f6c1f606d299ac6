pub mod Generator
pub mod Root
