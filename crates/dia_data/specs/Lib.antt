pub mod Number
pub mod Ranges
pub mod Plain
pub mod Leaf
pub mod Below
pub mod Front
pub mod State
pub mod Shown
