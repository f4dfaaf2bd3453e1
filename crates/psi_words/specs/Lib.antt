pub mod Form
pub mod Words
