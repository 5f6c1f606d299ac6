pub mod Errors
pub mod Losses
pub mod Determined
