pub mod Answers
pub mod Devices
pub mod Live
pub mod Named
pub mod Vectors
pub mod Words
