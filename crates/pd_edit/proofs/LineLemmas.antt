-- Wires found along a line, and looks at signal wires.
use Rattle.std.proofs.Common.{arith, ◌≡◌, ◌≤◌, ◌+◌, ℕ, suc, ◌==◌, Bool, true, false, cond, List, [], ◌∷◌, refl, ap, ◌∙◌}
use Rattle.std.specs.Prelude.{Option, Some, IsSome, is_some, slice_get}
use Rattle.std.proofs.lemmas.Bool.{and_parts}
use Rattle.std.proofs.lemmas.Option.{none-some, same_Some}
use Rattle.slab.specs.Slab.{get}
use Rattle.pd_order.proofs.Basics.{by_test, same_node}
use Rattle.pd_grove.specs.declared.grove.Grove.{Grove}
use Rattle.pd_grove.specs.Owning.{AreOwn, board_in}
use Rattle.pd_web.specs.declared.lines.Line.{Line}
use Rattle.pd_web.specs.declared.web.Hop.{Hop}
use Rattle.pd_web.specs.declared.web.Web.{Web}
use Rattle.pd_web.specs.Canvases.{keys_at}
use Rattle.pd_web.specs.Changes.{hop_at, line_by, line_told}
use Rattle.pd_web.specs.Hops.{fan_hops}
use Rattle.pd_seek.specs.Places.{leads_to, key_to}
use Rattle.pd_patch.specs.Listing.{IsThere}
use Rattle.pd_wiring.specs.Changes.{LeadsAlong}

-- a box of a canvas lies in it
pub box_inside : (g : Grove) (c k : ℕ) → AreOwn (get g.nodes) (get g.boards) → IsThere (keys_at g c) k → board_in (get g.nodes k) ≡ Some c
box_inside g c k O at = O.home c at.0 k at.1

hop_is : (h : Hop) (key node port : ℕ) → h.key ≡ key → h.node ≡ node → h.port ≡ port → h ≡ hop_at key node port
hop_is h key node port a b c = ap (λ (n : ℕ). hop_at n h.node h.port) a ∙ ap (λ (n : ℕ). hop_at key n h.port) b ∙ ap (λ (n : ℕ). hop_at key node n) c

same_key : (h : Hop) (key : ℕ) → ◌≡◌ {A = Option ℕ} (Some h.key) (Some key) → h.key ≡ key
same_key h key e = same_Some h.key key e

-- what leads to the line's inlet is a wire along it
found_at : (l : Line) (hops : List Hop) (key : ℕ) → key_to l hops ≡ Some key → (place : ℕ) × (slice_get hops place ≡ Some (hop_at key l.sink l.inlet))
found_at l [] key e = absurd (none-some key e)
found_at l (h ∷ hops) key e = by_test (leads_to l h)
    (λ t. let both = and_parts (h.node == l.sink) (h.port == l.inlet) t in
    (0, ap (λ (x : Hop). Some x) (hop_is h key l.sink l.inlet (same_key h key (rw t at e)) (same_node h.node l.sink both.0) (same_node h.port l.inlet both.1))))
    (λ f. let r = found_at l hops key (rw f at e) in (suc r.0, r.1))

pub found_along : (w : Web) (l : Line) (key : ℕ) → key_to l (fan_hops w l.source l.outlet) ≡ Some key → LeadsAlong w key l
found_along w l key e = let r = found_at l (fan_hops w l.source l.outlet) key e in record { place = r.0; stands = r.1 }

-- a wire that leads along a line is there
pub wire_here : (w : Web) (l : Line) (key : ℕ) → ((node outlet i : ℕ) (h : Hop) → slice_get (fan_hops w node outlet) i ≡ Some h → line_told w h.key ≡ Some (line_by (hop_at h.key node outlet) h))
    → LeadsAlong w key l → IsSome (line_told w key)
wire_here w l key fans A = ap is_some (fans l.source l.outlet A.place (hop_at key l.sink l.inlet) A.stands)

-- looks are taken for a signal wire alone
pub looks_within : (b : Bool) (before after most : ℕ) → (b ≡ false → after ≡ before) → after ≤ before + most → after ≤ before + cond b most 0
looks_within true before after most none some = some
looks_within false before after most none some = let e = none refl in omega (arith, e)
