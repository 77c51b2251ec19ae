pub mod Beginnings
pub mod Claims
pub mod Frames
pub mod Levels
pub mod Lexing
pub mod Marks
pub mod Steps
pub mod Unread
