pub mod Valid
pub mod LongestRuns
pub mod Rules
pub mod Commands
pub mod Inclusion
