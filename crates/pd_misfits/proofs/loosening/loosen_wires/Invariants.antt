use Rattle.std.proofs.Common.{◌≡◌, ◌≤◌, ◌+◌, length, take}
use Rattle.pd_links.specs.Linked.{KeepsLinkRoom}
use Rattle.pd_web.specs.Changes.{wires_told}
use Rattle.pd_taking.specs.Loosening.{Loosens}
use Rattle.pd_misfits.specs.Shedding.{Sheds}
use Rattle.pd_misfits.proofs.loosening.loosen_wires.Given as goal

abbrev pub invariant-loop-wire : goal.invariant-loop-wire
invariant-loop-wire g l = record {
  loosens : Loosens l.fn.patch l.patch l.key l.fn.steps l.steps;
  sheds : Sheds l.fn.patch.web l.patch.web (take l.wire-index l.gone);
  room : KeepsLinkRoom l.fn.patch.links l.patch.links;
  counted : l.left ≡ wires_told l.patch.web;
  within : l.wire-index ≤ length l.gone;
  fewer : wires_told l.patch.web + l.wire-index ≡ wires_told l.fn.patch.web;
}
