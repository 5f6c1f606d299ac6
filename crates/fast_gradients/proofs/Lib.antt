pub mod MinusZero
pub mod Rows
pub mod Clean
pub mod Fours
pub mod Inputs
