pub mod Places
pub mod Parts
pub mod Notes
pub mod Tables
pub mod Expecting
pub mod Kinds
