pub mod Lines
pub mod Names
pub mod Naming
pub mod Outcome
pub mod Runs
