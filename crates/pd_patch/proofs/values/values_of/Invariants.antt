use Rattle.std.proofs.Common.{◌≡◌, ℕ, ◌<◌, length, map}
use Rattle.std.specs.Prelude.{slice_get, Some}
use Rattle.pd_patch.specs.Values.{first_blocks}
use Rattle.pd_patch.proofs.values.values_of.Given as goal

abbrev pub invariant-loop-key : goal.invariant-loop-key
invariant-loop-key l = record {
  count : length l.values.items ≡ l.key;
  each : (k : ℕ) → k < l.key → slice_get (map (λ b. b.items) l.values.items) k ≡ Some (first_blocks l.web k);
}
