pub mod Adding
pub mod Models
pub mod Outlines
pub mod Shapes
pub mod Wording
