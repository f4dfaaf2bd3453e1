mod Each
mod Majority
mod Scheduling
mod TwoBlocks
pub mod Blocks
pub mod Composed
pub mod Exchange
pub mod Fours
pub mod Groups
pub mod Masks
pub mod Shifts
pub mod WordBytes
