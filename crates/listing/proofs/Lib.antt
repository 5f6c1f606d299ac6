pub mod Layered
pub mod Listed
pub mod Determined
