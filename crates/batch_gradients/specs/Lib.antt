pub mod Accumulate
pub mod Calls
