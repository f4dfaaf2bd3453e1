pub mod Verdicts
pub mod Comparing
pub mod Naming
pub mod Searching
pub mod Laws
