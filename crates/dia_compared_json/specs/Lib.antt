pub mod Compared
pub mod Failures
pub mod Objects
pub mod Parts
