pub mod Lines
pub mod Kinds
pub mod Outcome
pub mod Ended
