pub mod Counts
pub mod Ending
pub mod Lines
pub mod Streams
pub mod Runs
pub mod Summaries
pub mod Verdicts
