use Rattle.std.proofs.Common.{◌≡◌, get_or}
use Rattle.pd_wire.specs.Links.{link_at, list_of}
use Rattle.pd_wire.proofs.links.at_place.Given as goal

abbrev pub invariant-loop : goal.invariant-loop
invariant-loop l = l.at ≡ get_or (list_of (link_at l.side l.nodes) l.end) l.counter l.end
