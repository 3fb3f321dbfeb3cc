use Rattle.std.proofs.Common.{take}
use Rattle.pd_links.specs.Linked.{AreLinked}
use Rattle.pd_links.proofs.links.Links.of.Given as goal

abbrev pub invariant-loop-wire : goal.invariant-loop-wire
invariant-loop-wire l = AreLinked l.links (take l.wire-index l.wires)
