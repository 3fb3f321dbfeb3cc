use Rattle.std.proofs.Common.{inl, inr, sym, ◌∙◌}
use Rattle.slab.specs.Slab.{get}
use Rattle.pd_grove.specs.Forest.{holder_in}
use Rattle.pd_putting.proofs.PlaceLemmas.{none_of, no_sides, held_port}
use Rattle.pd_putting.proofs.placing.is_port_in.Goals as goal

pub returns-then-is_held-clause-yes : goal.returns-then-is_held-clause-yes
returns-then-is_held-clause-yes c = λ t.
    held_port c.args.patch.now c.args.place c.args.kind.now (sym c.is_held.ensures ∙ c.if-is_held.true) (sym c.is_port.ensures ∙ t)

pub returns-then-is_held-clause-no : goal.returns-then-is_held-clause-no
returns-then-is_held-clause-no c = λ f. inr (no_sides c.args.kind.now (sym c.is_port.ensures ∙ f))

pub returns-clause-no : goal.returns-clause-no
returns-clause-no c = λ _. inl (none_of (holder_in (get c.args.patch.now.grove.boards c.args.place.canvas)) (sym c.is_held.ensures ∙ c.if-is_held.false))
