pub mod Adds
pub mod Views
pub mod Words
