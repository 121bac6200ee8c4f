pub mod Names
pub mod Marked
