pub mod Fields
pub mod Markers
pub mod Words
