pub mod Placed
pub mod Determined
