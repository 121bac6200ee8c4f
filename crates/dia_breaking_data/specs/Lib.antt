pub mod Shortest
pub mod Kinds
pub mod TheData
