pub mod Initial
pub mod Filled
