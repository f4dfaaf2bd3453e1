pub mod Transcripts
pub mod Playing
