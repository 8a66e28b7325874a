pub mod Arguments
pub mod Drain
pub mod Lookups
pub mod Make
pub mod Options
pub mod Refusal
pub mod Serve
pub mod Words
