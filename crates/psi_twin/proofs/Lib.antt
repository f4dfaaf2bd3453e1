pub mod ColumnFiles
pub mod TwinLaws
pub mod TwinSteps
pub mod TwinVerdicts
