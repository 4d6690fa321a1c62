pub mod Programs
pub mod Trails
