pub mod Members
pub mod Reading
pub mod Making
pub mod Made
