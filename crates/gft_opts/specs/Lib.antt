pub mod Part
pub mod Refusal
pub mod Retr
pub mod Setting
pub mod Settings
pub mod Targets
pub mod Word
pub mod Words
