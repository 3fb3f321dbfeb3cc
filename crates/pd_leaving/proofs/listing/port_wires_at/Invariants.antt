use Rattle.std.proofs.Common.{[], ◌∷◌, ◌-◌, length}
use Rattle.pd_taking.specs.Loosening.{hops_at}
use Rattle.pd_misfits.proofs.WalkLemmas.{passed, IsWalked}
use Rattle.pd_leaving.specs.Wires.{wire_at}
use Rattle.pd_leaving.proofs.listing.port_wires_at.Given as goal

abbrev pub invariant-loop-next : goal.invariant-loop-next
invariant-loop-next l =
    IsWalked (λ h. wire_at l.patch.numbers.items l.port.side l.port.node l.port.port h ∷ []) (hops_at l.patch.web l.port.side l.port.node l.port.port) [] l.found.items l.next

abbrev pub decreases-loop-next : goal.decreases-loop-next
decreases-loop-next l = length (hops_at l.patch.web l.port.side l.port.node l.port.port) - passed (hops_at l.patch.web l.port.side l.port.node l.port.port) l.next
