pub mod Fields
pub mod Packets
pub mod Records
pub mod Interfaces
pub mod Blocks
pub mod Sections
pub mod Files
pub mod UnderWay
