pub mod Devices
pub mod Exit
pub mod Inputs
pub mod Writing
