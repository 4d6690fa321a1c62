pub mod Names
pub mod Theory
pub mod Machine
pub mod Algorithms
