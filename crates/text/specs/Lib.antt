pub mod Text
pub mod Appended
