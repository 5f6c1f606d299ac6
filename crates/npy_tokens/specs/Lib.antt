pub mod Tokens
pub mod Places
