pub mod ValueLemmas
pub mod RampLemmas
pub mod TakenLemmas
pub mod RowLemmas
