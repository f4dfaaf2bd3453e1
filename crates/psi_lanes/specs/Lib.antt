pub mod Lanes
pub mod Rounds
pub mod Digests
pub mod Strips
pub mod Tile
