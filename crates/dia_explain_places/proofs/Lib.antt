pub mod SameLine
pub mod TableWords
pub mod Notes
