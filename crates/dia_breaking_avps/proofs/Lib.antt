pub mod Entries
pub mod FirstAvps
pub mod KindsOfLeaves
pub mod EmptyLevels
pub mod NoLevels
pub mod Heads
pub mod Alone
pub mod AddressLevels
pub mod ShortLevels
pub mod Readings
pub mod ShorterData
mod AnyData
