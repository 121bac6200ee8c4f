pub mod Outcome
pub mod Vectors
