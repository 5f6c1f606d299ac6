pub mod Outputs
pub mod Rows
pub mod Calls
pub mod Determined
