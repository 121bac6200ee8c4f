pub mod Added
pub mod Kept
mod Reports
pub mod Writings
