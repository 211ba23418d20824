pub mod Orders
pub mod Turning
