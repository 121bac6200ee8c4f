pub mod FormatWords
