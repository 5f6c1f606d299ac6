pub mod Answers
pub mod Adding
pub mod Moving
pub mod Determined
