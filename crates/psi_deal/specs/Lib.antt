pub mod Pairs
pub mod Roles
pub mod BadDeals
pub mod OldDeals
pub mod Differences
