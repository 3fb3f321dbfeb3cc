-- The canvas to which a path leads lives, and which boxes are ports of a box around.
use Rattle.std.proofs.Common.{◌≡◌, ℕ, Bool, true, false, cond, ◌||◌, is_some, List, [], ◌∷◌, Option, Some, None, inl, inr, refl, subst}
use Rattle.std.specs.Prelude.{◌⊎◌, IsSome, option_and_then, slice_get}
use mathlib.Core.Logic.{⊎_elim}
use Rattle.std.proofs.lemmas.Bool.{cases_Bool}
use Rattle.std.proofs.lemmas.Option.{none-some, same_Some}
use Rattle.slab.specs.Slab.{get}
use Rattle.pd_object.specs.declared.kinds.Kind.{Kind}
use Rattle.pd_grove.specs.declared.nodes.Node.{Node}
use Rattle.pd_grove.specs.declared.boards.Board.{Board}
use Rattle.pd_grove.specs.declared.grove.Grove.{Grove}
use Rattle.pd_grove.specs.declared.ports.Side.{Side}
use Rattle.pd_grove.specs.declared.ports.Side.TheVariants.{Inlets, Outlets}
use Rattle.pd_grove.specs.Forest.{IsForest, holder_in}
use Rattle.pd_grove.specs.OwnPaths.{sub_in, sub_step_in, sub_reached}
use Rattle.pd_grove.specs.Ports.{port_signal}
use Rattle.pd_grove.specs.Telling.{keys_in, inner_in}
use Rattle.pd_patch.specs.declared.patch.Patch.{Patch}
use Rattle.pd_boxes.specs.Put.{IsNoPort}
use Rattle.pd_boxes.specs.declared.room.Place.{Place}
use Rattle.pd_putting.specs.Places.{IsPortIn}

-- ---- canvases

inner_if : (b : Bool) (o : Option ℕ) (d : ℕ) → cond b o None ≡ Some d → o ≡ Some d
inner_if true o d h = h
inner_if false o d h = absurd (none-some d h)

sub_inner : (o : Option Node) (d : ℕ) → sub_in o ≡ Some d → inner_in o ≡ Some d
sub_inner None d h = absurd (none-some d h)
sub_inner (Some n) d h = inner_if _ n.inner d h

held_lives : (o : Option Board) (k : ℕ) → holder_in o ≡ Some k → IsSome o
held_lives None k h = absurd (none-some k h)
held_lives (Some b) k h = refl

module _ (g : Grove) (F : IsForest (get g.nodes) (get g.boards) g.root) where
  key_lives : (o : Option ℕ) (d : ℕ) → option_and_then (λ k. sub_in (get g.nodes k)) o ≡ Some d → IsSome (get g.boards d)
  key_lives None d h = absurd (none-some d h)
  key_lives (Some k) d h = held_lives (get g.boards d) k (F.inside k d (sub_inner (get g.nodes k) d h))

  step_lives : (here : Option ℕ) (n d : ℕ) → option_and_then (λ canvas. sub_step_in g canvas n) here ≡ Some d → IsSome (get g.boards d)
  step_lives None n d h = absurd (none-some d h)
  step_lives (Some canvas) n d h = key_lives (slice_get (keys_in (get g.boards canvas)) n) d h

  lives_from : (path : List ℕ) (here : Option ℕ) (c : ℕ) → ((d : ℕ) → here ≡ Some d → IsSome (get g.boards d)) → sub_reached g here path ≡ Some c → IsSome (get g.boards c)
  lives_from [] here c lives h = lives c h
  lives_from (n ∷ path) here c lives h = lives_from path (option_and_then (λ canvas. sub_step_in g canvas n) here) c (λ d e. step_lives here n d e) h

  pub canvas_lives : (path : List ℕ) (c : ℕ) → sub_reached g (Some g.root) path ≡ Some c → IsSome (get g.boards c)
  canvas_lives path c h = lives_from path (Some g.root) c (λ d e. subst (λ (x : ℕ). IsSome (get g.boards x)) (same_Some g.root d e) F.rooted.0) h

-- ---- port boxes

pub none_of : {A : Type 0} (o : Option A) → is_some o ≡ false → o ≡ None
none_of None h = refl
none_of (Some a) h = cc

both_no : (a b : Bool) → (a || b) ≡ false → (a ≡ false) × (b ≡ false)
both_no true b h = cc
both_no false true h = cc
both_no false false h = (refl, refl)

one_yes : (a b : Bool) → (a || b) ≡ true → (a ≡ true) ⊎ (b ≡ true)
one_yes true b h = inl refl
one_yes false b h = inr h

some_of : (o : Option ℕ) → is_some o ≡ true → (n : ℕ) × (o ≡ Some n)
some_of None h = cc
some_of (Some n) h = (n, refl)

pub no_sides : (k : Kind) → (is_some (port_signal Inlets k) || is_some (port_signal Outlets k)) ≡ false → (side : Side) → port_signal side k ≡ None
no_sides k h Inlets = none_of (port_signal Inlets k) (both_no (is_some (port_signal Inlets k)) (is_some (port_signal Outlets k)) h).0
no_sides k h Outlets = none_of (port_signal Outlets k) (both_no (is_some (port_signal Inlets k)) (is_some (port_signal Outlets k)) h).1

one_side : (k : Kind) → (is_some (port_signal Inlets k) || is_some (port_signal Outlets k)) ≡ true → (side : Side) × IsSome (port_signal side k)
one_side k h = ⊎_elim
    (λ (a : is_some (port_signal Inlets k) ≡ true). (Inlets, a))
    (λ (b : is_some (port_signal Outlets k) ≡ true). (Outlets, b))
    (one_yes (is_some (port_signal Inlets k)) (is_some (port_signal Outlets k)) h)

module _ (p : Patch) (place : Place) (k : Kind) where
  -- a port in a canvas that a box holds
  pub held_port : is_some (holder_in (get p.grove.boards place.canvas)) ≡ true → (is_some (port_signal Inlets k) || is_some (port_signal Outlets k)) ≡ true → IsPortIn p place k
  held_port held port =
      let holder = some_of (holder_in (get p.grove.boards place.canvas)) held in
      let side = one_side k port in
      (holder.0, side.0, record { held = holder.1; port = side.1 })

  -- a box is a port of the box around, or it is none
  pub port_or_not : IsNoPort p place k ⊎ IsPortIn p place k
  port_or_not = elim (cases_Bool (is_some (holder_in (get p.grove.boards place.canvas)))) [
    | inr free ↦ inl (inl (none_of (holder_in (get p.grove.boards place.canvas)) free))
    | inl held ↦ elim (cases_Bool (is_some (port_signal Inlets k) || is_some (port_signal Outlets k))) [
      | inl port ↦ inr (held_port held port)
      | inr none ↦ inl (inr (no_sides k none))
    ]
  ]
