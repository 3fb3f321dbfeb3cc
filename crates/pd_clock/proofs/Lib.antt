pub mod HeapLemmas
pub mod IndexLemmas
pub mod QueueLemmas
