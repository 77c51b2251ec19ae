pub mod Run
pub mod Serving
