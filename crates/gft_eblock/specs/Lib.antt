pub mod Arrival
pub mod Arrivals
pub mod Channel
pub mod Feeding
pub mod Header
pub mod Spelling
pub mod Words
