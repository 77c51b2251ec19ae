pub mod Boxing
pub mod LastSigns
pub mod LikeSigns
pub mod Outlined
pub mod Rooms
pub mod Shaping
pub mod Wording
