pub mod Config
pub mod Fold
pub mod Sized
