pub mod Bytes
pub mod Order
pub mod Waits
pub mod Reassemblies
pub mod Gaps
pub mod Streams
