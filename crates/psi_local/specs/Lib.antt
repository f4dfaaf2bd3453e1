pub mod Commands
pub mod Local
pub mod LocalPromises
pub mod Make
pub mod Transcript
pub mod Trial
pub mod TrialPromises
