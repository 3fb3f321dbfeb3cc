use Rattle.std.proofs.Common.{◌≡◌, ◌≤◌, ◌⊎◌, drop, length}
use Rattle.pd_kind.specs.Fit.{IsLike}
use Rattle.pd_held.specs.Stores.{list_stored}
use Rattle.pd_held.proofs.stores.store_list.Given as goal

abbrev pub invariant-loop-i : goal.invariant-loop-i
invariant-loop-i l = (list_stored l.state l.i (drop l.i l.atoms) ≡ list_stored l.fn.state 1 (drop 1 l.atoms)) × IsLike l.fn.state l.state
