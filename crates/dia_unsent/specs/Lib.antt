pub mod Unsent
