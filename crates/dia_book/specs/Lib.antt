pub mod Keys
pub mod Limits
pub mod Rules
pub mod Dictionary
pub mod Shapes
pub mod Opened
