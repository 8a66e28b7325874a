pub mod Commands
pub mod Parameters
pub mod Table
pub mod Telnet
pub mod Words
pub mod Written
