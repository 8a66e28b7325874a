pub mod Carried
pub mod Drive
pub mod Generator
pub mod Lanes
pub mod Streams
pub mod Words
