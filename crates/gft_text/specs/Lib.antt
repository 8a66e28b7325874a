pub mod HostPort
pub mod LineStream
pub mod Lines
pub mod Name
pub mod Table
pub mod Words
