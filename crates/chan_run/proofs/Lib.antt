pub mod Writing
pub mod NeedLemmas
pub mod LeastLemmas
pub mod Endings
mod RoomLemmas
mod FoundLemmas
mod OneOutcome
