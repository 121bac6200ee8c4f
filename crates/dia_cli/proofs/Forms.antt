-- The words of a form are accepted, and ask for what it says.
pub mod Lookup
pub mod Walked
pub mod NamesWalked
pub mod Steps
pub mod Walks
pub mod Ends
pub mod Fits
pub mod FormRows
pub mod Says
pub mod Named
pub mod Commands
pub mod Requests
pub mod Accepted
