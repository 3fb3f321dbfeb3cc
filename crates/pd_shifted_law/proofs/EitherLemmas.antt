-- What stays where a box moved, whether or not it is a port of the box around.
use Rattle.std.proofs.Common.{◌≡◌, ℕ, ℤ, inl, inr, slice_get, Some, ◌∙◌, subst}
use Rattle.slab.specs.Slab.{get}
use Rattle.pd_grove.specs.declared.grove.Grove.{Grove}
use Rattle.pd_grove.specs.Forest.{holder_in}
use Rattle.pd_grove.specs.Refits.{at_place, Alters}
use Rattle.pd_web.specs.Canvases.{keys_at}
use Rattle.pd_patch.specs.declared.patch.Patch.{Patch}
use Rattle.pd_putting_law.proofs.PathLemmas.{Forest}
use Rattle.pd_shifting.specs.Moves.{ShiftsBox}
use Rattle.pd_shifting.proofs.MoveLemmas.{forest_as, no_spot}

-- what a patch that runs asks of them
pub record StaysAround (p q : Patch) : Type 0 where
  pub names : q.names ≡ p.names
  pub timers : q.timers ≡ p.timers
  pub values : q.values ≡ p.values
  pub rate : q.rate ≡ p.rate

module _ (p q : Patch) (canvas key : ℕ) (x y : ℤ) where
  -- the box stands at its place
  pub box_alters : ShiftsBox p q canvas key x y → Alters p.grove q.grove key (at_place x y)
  box_alters (inl s) = s.box
  box_alters (inr s) = subst (λ (g : Grove). Alters g q.grove key (at_place x y)) s.room.grove s.slid.box

  pub rest_stays : ShiftsBox p q canvas key x y → StaysAround p q
  rest_stays (inl s) = record {
    names = s.rest.names;
    timers = s.rest.timers;
    values = s.rest.values;
    rate = s.rest.rate;
  }
  rest_stays (inr s) = record {
    names = s.slid.rest.names ∙ s.room.names;
    timers = s.slid.rest.timers ∙ s.room.timers;
    values = s.slid.rest.values ∙ s.room.values;
    rate = s.slid.rest.rate ∙ s.room.rate;
  }

  pub forest_then : Forest p.grove → (number : ℕ) → slice_get (keys_at p.grove canvas) number ≡ Some key → ShiftsBox p q canvas key x y → Forest q.grove
  forest_then F number is (inl s) = forest_as p.grove q.grove canvas key number x y F is (no_spot (holder_in (get p.grove.boards canvas)) (get p.grove.nodes key) s.plain) s.box
  forest_then F number is (inr s) = s.slid.can.forest
