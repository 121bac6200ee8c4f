pub mod Gets
pub mod Parts
pub mod Placing
pub mod Left
pub mod Gathering
pub mod Streamed
