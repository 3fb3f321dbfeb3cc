pub mod FrameLemmas
mod SumLemmas
