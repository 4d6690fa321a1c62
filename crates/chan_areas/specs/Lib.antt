pub mod Merged
pub mod Clip
