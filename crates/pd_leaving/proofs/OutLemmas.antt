-- A box without wires and without a canvas inside is ready to go, and what it leaves.
use Rattle.std.proofs.Common.{◌≡◌, ℕ, ◌==◌, false, List, [], ◌∷◌, Option, Some, None, IsTrue, eqb-true, refl, sym, ap, ◌∙◌, subst}
use Rattle.std.specs.Prelude.{slice_get}
use Rattle.std.proofs.lemmas.Bool.{or_cases, false≢true}
use Rattle.std.proofs.lemmas.Option.{none-some}
use mathlib.Core.Logic.{⊎_elim}
use Rattle.slab.specs.Slab.{get}
use Rattle.pd_order.specs.Listing.{Listing}
use Rattle.pd_grove.specs.Telling.{inner_in}
use Rattle.pd_owning.specs.Bound.{is_among}
use Rattle.pd_owning.proofs.LeafLemmas.{leaf_alone}
use Rattle.pd_web.specs.Canvases.{keys_at}
use Rattle.pd_web.specs.Changes.{Meet}
use Rattle.pd_ports.specs.Boxes.{HasNoWires}
use Rattle.pd_patch.specs.declared.patch.Patch.{Patch}
use Rattle.pd_boxes.specs.declared.room.Place.{Place}
use Rattle.pd_boxes.specs.Put.{CanPut}
use Rattle.pd_clearing.specs.Layers.{DropsOrders}
use Rattle.pd_clearing.proofs.ReadyLemmas.{IsReady}

-- the only box among one is that
pub only_one : (x key : ℕ) → IsTrue (is_among (key ∷ []) x) → x ≡ key
only_one x key t = ⊎_elim (λ e. eqb-true x key e) (λ e. absurd (false≢true e)) (or_cases (x == key) false t)

pub leaf_ready : (p : Patch) (place : Place) (key : ℕ) → CanPut p → slice_get (keys_at p.grove place.canvas) place.number ≡ Some key → inner_in (get p.grove.nodes key) ≡ None → Meet p.web
    → HasNoWires p.web key → IsReady p place key (key ∷ [])
leaf_ready p place key can is leaf meet bare = record {
  can = can;
  is = is;
  meet = meet;
  are = leaf_alone (get p.grove.nodes) (get p.grove.boards) p.grove.root can.forest key leaf;
  bare = λ k t. subst (HasNoWires p.web) (sym (only_one k key t)) bare;
}

-- no canvas is in the box, so no order goes
pub no_orders_go : (p : Patch) (key : ℕ) (orders : List (Option Listing)) → inner_in (get p.grove.nodes key) ≡ None → DropsOrders p.grove orders orders (key ∷ [])
no_orders_go p key orders leaf = record {
  gone = λ c h. absurd (none-some c (sym leaf ∙ ap (λ x. inner_in (get p.grove.nodes x)) (sym (only_one h.0 key h.1)) ∙ h.2));
  others = λ c _. refl;
}
