pub mod Shared
pub mod Again
