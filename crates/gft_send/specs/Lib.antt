pub mod Sending
pub mod Streams
pub mod Stripes
pub mod Transfers
pub mod Words
