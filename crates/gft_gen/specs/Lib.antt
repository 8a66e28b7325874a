pub mod Attempts
pub mod Codes
pub mod Making
pub mod Summary
pub mod Words
