pub mod Built
pub mod Due
pub mod Names
pub mod Stacks
