pub mod Merging
pub mod Clipping
pub mod Searching
pub mod Gaps
