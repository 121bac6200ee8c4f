pub mod Asked
pub mod Paths
pub mod Graph
pub mod Places
pub mod Records
pub mod Names
