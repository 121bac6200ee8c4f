pub mod Places
pub mod Maps
pub mod Filling
pub mod Selectors
pub mod Premises
pub mod Applications
pub mod Slots
