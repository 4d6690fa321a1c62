pub mod Ccw
pub mod Group
pub mod Flags
pub mod Storage
pub mod Held
pub mod Areas
pub mod Watched
pub mod Written
