mod CutLemmas
mod MessageLemmas
mod OutletLemmas
mod SlotLemmas
mod ChoiceLemmas
