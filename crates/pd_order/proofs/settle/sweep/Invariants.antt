use Rattle.std.proofs.Common.{◌≡◌, vec_capacity}
use Rattle.std.proofs.lemmas.List.Filters.{FiltersInPlace}
use Rattle.pd_order.specs.Spots.{is_nowhere}
use Rattle.pd_order.proofs.settle.sweep.Given as goal

abbrev pub invariant-loop-at : goal.invariant-loop-at
invariant-loop-at l = record {
  filtered : FiltersInPlace (is_nowhere l.spots) l.fn.stuck.items l.stuck.items l.kept l.at;
  capacity : vec_capacity l.stuck ≡ vec_capacity l.fn.stuck;
}
