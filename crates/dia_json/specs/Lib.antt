pub mod Listing
pub mod Messages
pub mod Reports
pub mod Runs
pub mod Values
pub mod Whole
pub mod ShownLines
