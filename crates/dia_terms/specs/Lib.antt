pub mod Limits
pub mod Names
pub mod Number
pub mod Texts
pub mod Formats
pub mod MRules
