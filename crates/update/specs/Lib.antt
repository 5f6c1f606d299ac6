pub mod Update
pub mod Calls
