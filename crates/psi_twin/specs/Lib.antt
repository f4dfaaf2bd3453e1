pub mod Commands
pub mod Twin
pub mod TwinPromises
