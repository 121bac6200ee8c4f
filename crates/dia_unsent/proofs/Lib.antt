pub mod UnheldAvps
