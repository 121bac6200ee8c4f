pub mod Words
pub mod Dates
pub mod Listing
pub mod Manners
pub mod Outcome
pub mod Report
pub mod Lines
pub mod ByteKinds
