pub mod Patterns
pub mod Cuts
pub mod Digits
pub mod Words
