pub mod Likely
pub mod Levels
