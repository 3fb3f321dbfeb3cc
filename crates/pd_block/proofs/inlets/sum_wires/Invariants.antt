use Rattle.std.proofs.Common.{◌≡◌, take}
use Rattle.std.specs.Prelude.{Some, None, slice_get, if◌then◌else◌}
use Rattle.pd_web.specs.Hops.{feed_hops}
use Rattle.pd_patch.specs.Values.{blocks_told}
use Rattle.pd_block.specs.Inlets.{sum_from}
use Rattle.pd_block.proofs.inlets.sum_wires.Given as goal

abbrev pub invariant-loop : goal.invariant-loop
invariant-loop l = record {
  next : l.next ≡ slice_get (feed_hops l.patch.web l.node l.inlet) l.counter;
  sum : (if l.is_fed then Some l.into else None) ≡ sum_from l.patch.web (blocks_told l.patch) None (take l.counter (feed_hops l.patch.web l.node l.inlet));
}
