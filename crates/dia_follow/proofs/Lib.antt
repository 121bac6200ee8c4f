mod Fronts
mod Recordings
mod Numbered
mod Sets
pub mod OneReading
mod SameCommons
mod Opened
mod WorkedOpenings
