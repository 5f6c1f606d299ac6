pub mod Chains
pub mod Joined
pub mod Alike
pub mod Start
