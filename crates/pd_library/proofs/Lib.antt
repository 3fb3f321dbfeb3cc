pub mod FileLemmas
pub mod DraftLemmas
