pub mod Walking
pub mod Faultless
pub mod Slots
pub mod Lawful
pub mod Sizes
