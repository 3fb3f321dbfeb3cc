use Rattle.std.proofs.Common.{◌≡◌, ◌<◌, ℕ, []}
use Rattle.pd_web.specs.Changes.{wires_told}
use Rattle.pd_taking.specs.Loosening.{hops_at, Loosens}
use Rattle.pd_taking.proofs.loosening.loosen_side.Given as goal

abbrev pub invariant-loop-port : goal.invariant-loop-port
invariant-loop-port g l = record {
  loosens : Loosens l.fn.patch l.patch l.key l.fn.steps l.steps;
  counted : l.left ≡ wires_told l.patch.web;
  none : (i : ℕ) → i < l.port → hops_at l.patch.web l.side l.key i ≡ [];
}
