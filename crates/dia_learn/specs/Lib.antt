pub mod Facts
pub mod Kept
pub mod Learnt
pub mod Levels
pub mod Open
pub mod Placed
