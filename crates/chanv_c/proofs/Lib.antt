pub mod Refusals
pub mod Written
pub mod Jobs
pub mod Copies
pub mod Quiet
