pub mod Forms
pub mod InForm
pub mod WordValues
