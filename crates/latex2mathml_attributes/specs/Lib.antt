pub mod Arounds
pub mod Columns
pub mod Lines
pub mod Names
