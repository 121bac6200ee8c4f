pub mod Rules
pub mod Levels
pub mod Messages
pub mod Collecting
pub mod States
