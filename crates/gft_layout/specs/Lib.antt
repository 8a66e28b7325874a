pub mod Blocks
pub mod Owner
pub mod Plan
pub mod Runs
pub mod Words
