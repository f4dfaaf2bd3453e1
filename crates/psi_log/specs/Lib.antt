pub mod Recording
pub mod BadRecords
pub mod Laws
