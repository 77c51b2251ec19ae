pub mod Appended
pub mod ColumnPlaces
pub mod Halves
pub mod Lengths
