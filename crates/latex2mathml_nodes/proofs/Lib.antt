pub mod Layers
pub mod Members
pub mod Prints
pub mod Styles
pub mod Weights
