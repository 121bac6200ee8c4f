pub mod Fields
pub mod RecordsRead
pub mod UnderWayRead
pub mod Times
pub mod BlocksRead
pub mod BlocksUnderWay
pub mod OneBlocks
pub mod OneFile
