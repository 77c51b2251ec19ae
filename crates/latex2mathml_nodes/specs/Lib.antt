pub mod Discreteness
pub mod Layers
pub mod Nodes
