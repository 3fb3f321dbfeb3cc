use Rattle.std.proofs.Common.{◌≡◌, length}
use Rattle.std.specs.Prelude.{slice_get}
use Rattle.pd_web.specs.Changes.{wires_told}
use Rattle.pd_taking.specs.Loosening.{hops_at, Loosens}
use Rattle.pd_taking.proofs.loosening.loosen_port.Given as goal

abbrev pub invariant-loop-next : goal.invariant-loop-next
invariant-loop-next g l = record {
  loosens : Loosens l.fn.patch l.patch l.key l.fn.steps l.steps;
  counted : l.left ≡ wires_told l.patch.web;
  first : l.next ≡ slice_get (hops_at l.patch.web l.side l.key l.port) 0;
}

abbrev pub decreases-loop-next : goal.decreases-loop-next
decreases-loop-next g l = length (hops_at l.patch.web l.side l.key l.port)
