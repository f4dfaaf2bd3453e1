pub mod Candidates
pub mod Messages
