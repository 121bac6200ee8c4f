pub mod Numbers
pub mod Links
pub mod Plain
pub mod Datagrams
pub mod Ipv4
pub mod Ipv6
pub mod Segments
