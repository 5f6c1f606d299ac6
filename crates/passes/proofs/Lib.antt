pub mod Passes
pub mod Walks
pub mod Rows
pub mod EachRow
pub mod Past9
