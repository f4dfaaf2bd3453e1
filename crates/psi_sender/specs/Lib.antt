pub mod Script
pub mod Phases
pub mod Hashed
pub mod Answering
pub mod Running
pub mod Laws
