pub mod Counting
pub mod Endings
pub mod LinesOfMessages
pub mod OneMessage
mod ReasonsCounted
pub mod Running
pub mod RefusedRuns
mod StreamOfMessages
pub mod Summed
pub mod Tallies
