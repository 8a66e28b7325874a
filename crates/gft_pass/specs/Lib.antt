pub mod Causes
pub mod Ledger
pub mod Views
pub mod Words
