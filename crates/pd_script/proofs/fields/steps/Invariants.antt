use Rattle.std.proofs.Common.{◌≡◌, ◌≤◌, drop, [], vec_len, vec_capacity}
use Rattle.std.specs.Prelude.{slice_range}
use Rattle.pd_script.specs.Fields.{steps_of, parts_after}
use Rattle.pd_script.proofs.StepLemmas.{with_steps}
use Rattle.pd_script.proofs.fields.steps.Given as goal

abbrev pub invariant-loop-i : goal.invariant-loop-i
invariant-loop-i l = record {
  from : l.from ≤ l.i;
  room : vec_len l.out ≤ l.from;
  capacity : vec_capacity l.out ≡ vec_capacity l.fn.out;
  exact : with_steps l.out.items (steps_of (parts_after (slice_range l.rest l.from l.i) (drop l.i l.rest))) ≡ steps_of (parts_after [] l.rest);
}
