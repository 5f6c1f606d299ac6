pub mod Touched
pub mod RowMarks
