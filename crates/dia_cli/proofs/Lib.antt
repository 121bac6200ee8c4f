pub mod OptionsApart
pub mod Endings
pub mod Lines
pub mod Words
pub mod Forms
