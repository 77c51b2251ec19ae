pub mod Files
pub mod FirstLines
pub mod Formulas
pub mod Lines
pub mod Reading
pub mod Refusals
pub mod Runs
