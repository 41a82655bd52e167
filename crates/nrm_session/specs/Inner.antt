pub mod Answers
pub mod Solved
