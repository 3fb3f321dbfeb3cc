pub mod PresentLemmas
