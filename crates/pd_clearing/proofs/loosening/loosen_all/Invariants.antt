use Rattle.std.proofs.Common.{◌≡◌, take}
use Rattle.pd_grove.specs.TextOrder.{keys_of_spots}
use Rattle.pd_web.specs.Changes.{wires_told}
use Rattle.pd_clearing.specs.Losing.{LoosensAll}
use Rattle.pd_clearing.proofs.loosening.loosen_all.Given as goal

abbrev pub invariant-loop-spot : goal.invariant-loop-spot
invariant-loop-spot g l = record {
  loosens : LoosensAll l.fn.patch l.patch (keys_of_spots l.spots) (keys_of_spots (take l.spot-index l.spots)) l.fn.steps l.steps;
  counted : l.left ≡ wires_told l.patch.web;
}
