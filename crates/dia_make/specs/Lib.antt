pub mod Numbered
pub mod Outcome
pub mod Shown
pub mod Reports
pub mod Tables
