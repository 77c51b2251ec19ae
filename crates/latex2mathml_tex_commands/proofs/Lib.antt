pub mod Colored
pub mod Keyed
pub mod Lookups
pub mod NamedEntries
pub mod Parts
pub mod SignLookups
pub mod SignTables
pub mod Telling
