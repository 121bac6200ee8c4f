pub mod MarkedTexts
pub mod Marks
pub mod PartLists
pub mod Parts
pub mod Sought
pub mod Tables
pub mod Texts
