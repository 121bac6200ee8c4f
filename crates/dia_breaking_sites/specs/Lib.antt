pub mod Sent
pub mod Sites
pub mod Selection
