pub mod Rows
pub mod Paths
pub mod Reached
pub mod Placed
pub mod Judging
pub mod Picks
pub mod Found
