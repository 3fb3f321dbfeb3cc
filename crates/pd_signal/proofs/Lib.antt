mod LoopLemmas
mod LineLemmas
mod ShortLemmas
