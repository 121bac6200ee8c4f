pub mod Lists
pub mod Sets
pub mod CauseLaws
pub mod Tallies
mod Forms
mod LineParts
mod SubjectBytes
mod OnceEnds
mod LineLaws
mod CountedLines
