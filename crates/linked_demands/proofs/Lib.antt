pub mod Linked
pub mod Chained
pub mod Exchanged
