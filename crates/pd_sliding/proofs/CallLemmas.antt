-- What the box around asks for to follow, and what its wires are then, on either side.
use Rattle.std.proofs.Common.{◌≡◌, ℕ, ℤ, List, length, slice_get, Some, inl, inr, sym, ap, ◌∙◌, subst}
use Rattle.pd_grove.specs.declared.grove.Grove.{Grove}
use Rattle.pd_grove.specs.declared.ports.Side.{Side}
use Rattle.pd_grove.specs.declared.ports.Side.TheVariants.{Inlets, Outlets}
use Rattle.pd_grove.specs.Refits.{at_place, Alters}
use Rattle.pd_web.specs.declared.jacks.Jack.{Jack}
use Rattle.pd_web.specs.declared.web.Web.{Web}
use Rattle.pd_web.specs.Changes.{Meet}
use Rattle.pd_web.specs.Homes.{inner_in}
use Rattle.pd_web.specs.Hops.{ports_told, feed_hops, port_told}
use Rattle.pd_web.specs.Jacks.{jacks_at}
use Rattle.pd_seek.specs.Places.{AreInOrder}
use Rattle.pd_ports.specs.declared.room.PortRoom.{PortRoom}
use Rattle.pd_ports.specs.Known.{AreBareWithout, AreFreeFor, KnowsHomes}
use Rattle.pd_ports.specs.Moves.{FollowsPorts}
use Rattle.pd_ports.specs.Room.{HasLists}
use Rattle.pd_moving.specs.Orders.{IsOutletThen, MovesBySteps, MovesOutlet}
use Rattle.pd_patch.specs.declared.patch.Patch.{Patch}
use Rattle.pd_following.proofs.ComeLemmas.{same_side}
use Rattle.pd_following.proofs.RaiseLemmas.{FansTold, FeedsTold}
use Rattle.pd_sliding.specs.Slides.{inlet_slid, IsOneElsewhere, Slides}
use Rattle.pd_sliding.specs.Sliding.{CanSlide, HaveOwnLabel}
use Rattle.pd_sliding.proofs.FollowLemmas.{bare_slid, count_then, free_slid, it_is}
use Rattle.pd_sliding.proofs.RunLemmas.{one_elsewhere, other_jacks, stands}
use Rattle.pd_sliding.proofs.SlideLemmas.{inlet_in_order, inlet_slides, outlet_in_order, outlet_slides}

-- the port of the box goes somewhere
abbrev pub GoesElsewhere : Web → Grove → (node : ℕ) → Side → (key from : ℕ) → Type 0
GoesElsewhere w g node side key from = (to : ℕ) × IsOneElsewhere w (jacks_at side g node) node side key from to

module _ (w : Web) (g : Grove) (node : ℕ) (side : Side) (key from : ℕ) (s : Side) (e : side ≡ s) where
  on_side : (to : ℕ) → IsOneElsewhere w (jacks_at side g node) node side key from to → IsOneElsewhere w (jacks_at s g node) node s key from to
  on_side to O = subst (λ (t : Side). IsOneElsewhere w (jacks_at t g node) node t key from to) e O

  pub free_then : GoesElsewhere w g node side key from → AreFreeFor w node s (jacks_at s g node)
  free_then h = free_slid w (jacks_at s g node) node s key from h.0 (on_side h.0 h.1)

  pub bare_then : GoesElsewhere w g node side key from → AreBareWithout w node s (jacks_at s g node)
  bare_then h = bare_slid w (jacks_at s g node) node s key from h.0 (on_side h.0 h.1)

pub outlet_then : (w : Web) (g : Grove) (node : ℕ) (side : Side) (key from : ℕ) → side ≡ Outlets → GoesElsewhere w g node side key from → IsOutletThen g node key
outlet_then w g node side key from e h = (h.0, it_is w (jacks_at Outlets g node) node Outlets key from h.0 (on_side w g node side key from Outlets e h.0 h.1))

pub now_told : (w : Web) (g : Grove) (node : ℕ) (side s : Side) → side ≡ s → ports_told w s node ≡ jacks_at s g node → ports_told w side node ≡ jacks_at side g node
now_told w g node side s e now = subst (λ (t : Side). ports_told w t node ≡ jacks_at t g node) (sym e) now

-- An inlet went.
module _ (w w' : Web) (g : Grove) (node : ℕ) (side : Side) (key from : ℕ) (e : side ≡ Inlets) (F : FollowsPorts w w' node Inlets (jacks_at Inlets g node))
    (M : Meet w) (fans : FansTold w) (feeds : FeedsTold w) (to : ℕ) (O : IsOneElsewhere w (jacks_at side g node) node side key from to) where
  pub inlets_slid : Slides w w' node side from to
  inlets_slid = subst (λ (t : Side). Slides w w' node t from to) (sym e) (inlet_slides w w' (jacks_at Inlets g node) node key from to (on_side w g node side key from Inlets e to O) F M fans feeds)

  pub inlets_ordered : (labels : List ℕ) (n i : ℕ) → HaveOwnLabel labels (feed_hops w n i) node → AreInOrder labels (feed_hops w n i) → AreInOrder labels (feed_hops w' n (inlet_slid side node from to n i))
  inlets_ordered labels n i own order = subst (λ (t : Side). AreInOrder labels (feed_hops w' n (inlet_slid t node from to n i))) (sym e)
      (inlet_in_order w w' (jacks_at Inlets g node) node key from to (on_side w g node side key from Inlets e to O) F M fans feeds labels n i order)

-- An outlet went.
module _ (w w' : Web) (g : Grove) (node : ℕ) (side : Side) (key from : ℕ) (e : side ≡ Outlets) (labels : List ℕ) (B : MovesBySteps w w' labels node from (jacks_at Outlets g node))
    (P : MovesOutlet w w' node (jacks_at Outlets g node)) (known : KnowsHomes w) (to : ℕ) (O : IsOneElsewhere w (jacks_at side g node) node side key from to) where
  pub outlets_slid : Slides w w' node side from to
  outlets_slid = subst (λ (t : Side). Slides w w' node t from to) (sym e)
      (outlet_slides w w' (jacks_at Outlets g node) labels node key from to (on_side w g node side key from Outlets e to O) B P known)

  pub outlets_ordered : (n i : ℕ) → HaveOwnLabel labels (feed_hops w n i) node → AreInOrder labels (feed_hops w n i) → AreInOrder labels (feed_hops w' n (inlet_slid side node from to n i))
  outlets_ordered n i own order = subst (λ (t : Side). AreInOrder labels (feed_hops w' n (inlet_slid t node from to n i))) (sym e)
      (outlet_in_order w w' (jacks_at Outlets g node) labels node key from to (on_side w g node side key from Outlets e to O) B P known n i own order)

-- The box around of a port box that stands elsewhere.
module _ (p : Patch) (h : Grove) (key holder : ℕ) (side : Side) (from : ℕ) (x y : ℤ) (C : CanSlide p key holder side from) (A : Alters p.grove h key (at_place x y)) (known : KnowsHomes p.web) where
  -- it has as many ports as before
  jack_count : (t : Side) → length (ports_told p.web t holder) ≡ length (jacks_at t h holder)
  jack_count t = elim (same_side t side) [
    | inl e ↦ subst (λ (s : Side). length (ports_told p.web s holder) ≡ length (jacks_at s h holder)) (sym e)
        (sym (count_then p.web (jacks_at side h holder) holder side key from (stands p h key holder side from x y C A).place (one_elsewhere p h key holder side from x y C A known)))
    | inr d ↦ ap length (C.can.runs.ports.ports t holder) ∙ sym (ap length (other_jacks p h key holder side from x y C A t holder (λ _. d)))
  ]

  pub lists_then : (room : PortRoom) → HasLists room (length (ports_told p.web Inlets holder)) (length (ports_told p.web Outlets holder))
      → HasLists room (length (jacks_at Inlets h holder)) (length (jacks_at Outlets h holder))
  lists_then room L = subst (λ n. HasLists room n (length (jacks_at Outlets h holder))) (jack_count Inlets)
      (subst (λ n. HasLists room (length (ports_told p.web Inlets holder)) n) (jack_count Outlets) L)

  -- it is known which port the box is then
  pub numbered_then : (w : Web) → KnowsHomes w → ports_told w side holder ≡ jacks_at side h holder → port_told w key ≡ Some (holder, (stands p h key holder side from x y C A).place)
  numbered_then w K now =
      let O = one_elsewhere p h key holder side from x y C A known in
      let to = (stands p h key holder side from x y C A).place in
      K.found side key holder to (ap (λ (js : List Jack). inner_in (slice_get js to)) now ∙ it_is p.web (jacks_at side h holder) holder side key from to O)
