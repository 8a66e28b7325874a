pub mod Client
pub mod Line
pub mod Status
