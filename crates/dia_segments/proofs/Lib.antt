pub mod Untagged
pub mod Extended
