pub mod Rows
pub mod Slots
pub mod Spans
pub mod Ups
pub mod Values
pub mod Tests
