pub mod Chosen
pub mod Naming
pub mod Refused
pub mod Runs
pub mod Unread
