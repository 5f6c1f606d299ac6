pub mod Silent
pub mod Readings
pub mod Alike
pub mod Demand
pub mod Start
pub mod Unmarked
