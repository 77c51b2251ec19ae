pub mod Elements
pub mod Pages
pub mod Runs
pub mod ValueTexts
pub mod Widths
