pub mod Starred
pub mod Instance
