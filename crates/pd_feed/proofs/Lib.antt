pub mod Steps
pub mod Parts
pub mod ScanLemmas
pub mod FeedLemmas
pub mod FedLemmas
pub mod NextLemmas
pub mod ScriptLemmas
