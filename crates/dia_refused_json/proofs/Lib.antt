mod Refusing
pub mod Recording
