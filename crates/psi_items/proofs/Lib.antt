pub mod Distinct
pub mod Keys
pub mod Members
pub mod Reading
pub mod Splitting
pub mod MadeItems
pub mod MadeLines
pub mod PlainLines
