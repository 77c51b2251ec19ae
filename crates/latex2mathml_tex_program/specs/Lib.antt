pub mod Definitions
pub mod Exits
pub mod Faults
pub mod Replies
pub mod Requests
pub mod Runs
pub mod Texts
