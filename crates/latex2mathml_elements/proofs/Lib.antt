pub mod Alternatives
pub mod Annotated
pub mod Characters
pub mod OneElement
pub mod Plain
pub mod Settings
