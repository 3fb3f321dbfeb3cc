pub mod ShellLemmas
pub mod OpenedLemmas
pub mod BeforeLemmas
pub mod RunLemmas
pub mod LawLemmas
pub mod PutLemmas
pub mod OrderLemmas
pub mod PartLemmas
