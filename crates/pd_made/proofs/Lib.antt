pub mod VoiceLemmas
pub mod TableLemmas
pub mod TallyLemmas
pub mod ProperLemmas
pub mod TextLemmas
