pub mod Encoding
pub mod Escapes
pub mod Halves
pub mod Keys
pub mod Lookups
pub mod Order
