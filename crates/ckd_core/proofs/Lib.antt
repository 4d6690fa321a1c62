pub mod TableLemmas
mod Permitting
pub mod LevelLemmas
pub mod CylinderLemmas
pub mod ArgumentLemmas
