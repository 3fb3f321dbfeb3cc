-- What holds of each element of a list, and of either of two: passed on to the crates above.
pub use Rattle.pd_keeping_law.proofs.FactLemmas.{either, either_by, all-append, all-both, all-take, all-filter, all-drop, all-set, all-at, all-map, all-weaker, all-flat, some-weaker, all-from, all-index, all-made}
