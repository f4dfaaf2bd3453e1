mod Differing
mod Positions
mod Foreign
mod Tags
mod Lookups
mod Named
mod Judged
pub mod Wired
mod Lawful
