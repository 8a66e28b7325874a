pub mod Attach
pub mod Bank
pub mod Damage
pub mod Journal
pub mod Scan
pub mod Slot
pub mod Words
