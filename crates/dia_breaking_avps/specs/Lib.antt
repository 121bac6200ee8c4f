pub mod Sent
pub mod Levels
pub mod Breaks
pub mod Laws
pub mod Answers
