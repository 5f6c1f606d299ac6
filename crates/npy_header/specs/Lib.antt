pub mod Dictionary
pub mod Grammar
pub mod Reading
pub mod File
pub mod Steps
