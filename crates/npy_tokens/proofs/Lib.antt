pub mod Spans
pub mod Texts
pub mod Readings
