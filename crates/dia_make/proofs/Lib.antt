pub mod Answers
pub mod Looked
pub mod Pieces
pub mod ReadsBack
pub mod Shown
