pub mod Answers
pub mod Calls
pub mod Finding
pub mod Kept
pub mod Names
pub mod Steps
pub mod Tallies
pub mod Words
