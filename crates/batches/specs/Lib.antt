pub mod Batch
pub mod Sound
