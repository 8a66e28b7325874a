pub mod Dials
pub mod Regions
pub mod Stripes
pub mod Words
