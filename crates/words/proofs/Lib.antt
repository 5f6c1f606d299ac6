pub mod Patterns
pub mod Packs
pub mod Tables
pub mod Places
pub mod Blocks
