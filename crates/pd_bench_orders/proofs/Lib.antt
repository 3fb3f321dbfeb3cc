mod HeldLemmas
mod RowLemmas
mod VoiceLemmas
