use Rattle.std.proofs.Common.{◌≡◌, ◌+◌, drop, ltb}
use Rattle.std.specs.List.{prefix_len}
use Rattle.pd_vline.proofs.stores.staying.Given as goal

abbrev pub invariant-loop-ramp : goal.invariant-loop-ramp
invariant-loop-ramp l = (l.count ≡ l.ramp-index) × (l.count + prefix_len (λ r. ltb r.start l.start) (drop l.ramp-index l.ramps) ≡ prefix_len (λ r. ltb r.start l.start) l.ramps)
