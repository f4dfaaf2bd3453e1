pub mod LocalLaws
pub mod LocalWords
pub mod MadeLengths
pub mod MakeLaws
pub mod MakeWords
pub mod Played
pub mod TrialLaws
pub mod TrialPlayed
