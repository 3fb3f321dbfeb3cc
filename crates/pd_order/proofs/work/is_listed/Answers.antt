use Rattle.std.proofs.Common.{◌≡◌, ℕ, ◌<◌, get_or, subst}
use Rattle.pd_order.specs.Graph.{tally}
use Rattle.pd_order.proofs.Basics.{tally_at, same_node, same_test}
use Rattle.pd_order.proofs.work.is_listed.Goals as goal

pub returns-then-at-listed : goal.returns-then-at-listed
returns-then-at-listed c = (
  λ h. let e : get_or c.args.listed.now c.place-at.result 0 ≡ c.args.node = same_node _ _ h in
      subst (λ (x : ℕ). 0 < tally x c.args.listed.now) e (tally_at c.args.listed.now c.place-at.result c.if-at-listed.true),
  λ h. let e : get_or c.args.listed.now c.place-at.result 0 ≡ c.args.node = rw c.place-at.ensures ((c.requires.placed c.args.node h).1) in
      rw e (same_test c.args.node),
)
