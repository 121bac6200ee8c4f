pub mod Accepted
pub mod Causes
pub mod LineReader
pub mod Lines
pub mod Seen
pub mod Sets
pub mod Words
