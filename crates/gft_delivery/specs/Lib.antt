pub mod Brought
pub mod Delivery
pub mod Laws
pub mod Rows
pub mod Words
