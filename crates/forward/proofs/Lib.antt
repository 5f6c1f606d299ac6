pub mod Passing
pub mod Determined
