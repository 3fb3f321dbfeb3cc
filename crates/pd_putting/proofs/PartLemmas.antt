-- A box with all that lies in it that came in: its keys, how often signal wires were looked at for it, and `$0` of the patch.
use Rattle.std.proofs.Common.{◌≡◌, ◌≢◌, ◌≤◌, ◌+◌, ℕ, true, List, [], ◌∷◌, Option, Some, None, refl, sym, ap, ◌∙◌, subst, arith}
use Rattle.std.specs.Prelude.{option_map}
use Rattle.std.proofs.lemmas.Bool.{cases_eq, false≢true}
use Rattle.std.proofs.lemmas.Option.{none-some, same_Some}
use mathlib.Core.Logic.{⊎_elim}
use Rattle.slab.specs.Slab.{get}
use Rattle.pd_atom.specs.Names.{Names}
use Rattle.pd_tree.specs.declared.rows.Sheet.{Sheet}
use Rattle.pd_tree.specs.Trees.{Trees, Done, Leaf, Holder, width, stands_of}
use Rattle.pd_grove.specs.declared.nodes.Node.{Node}
use Rattle.pd_grove.specs.declared.boards.Board.{Board}
use Rattle.pd_grove.specs.declared.seeds.Seed.{Seed}
use Rattle.pd_grove.specs.Grafts.{sheet_in}
use Rattle.pd_grove.specs.Planting.{one, seed_stand, stands_ready}
use Rattle.pd_grove.specs.Standing.{NodeSeen, node_seen, Stands}
use Rattle.pd_grove.specs.Telling.{inner_in}
use Rattle.pd_patch.specs.declared.patch.Patch.{Patch}
use Rattle.pd_boxes.specs.declared.room.Place.{Place}
use Rattle.pd_boxes.specs.Put.{CanPut}
use Rattle.pd_instances.specs.Part.{IsPartPut, looks_of}
use Rattle.pd_adding.specs.Coming.{zero_in, own_zero}
use Rattle.pd_putting.specs.Adds.{keys_within, looks_with, put_looks}
use Rattle.pd_putting.specs.Places.{looks_anywhere, HoldsCanvas}

seen_inner : (o : Option Node) (s : NodeSeen) → option_map node_seen o ≡ Some s → inner_in o ≡ s.inner
seen_inner None s h = absurd (none-some s h)
seen_inner (Some n) s h = ap (λ (x : NodeSeen). x.inner) (same_Some (node_seen n) s h)

-- a box of a list that holds a canvas has one
inner_of : (nodes : ℕ → Option Node) (boards : ℕ → Option Board) (b d k : ℕ) (t : Trees) → Stands nodes boards b d (k ∷ []) t → HoldsCanvas (stands_of t) → (j : ℕ) × (inner_in (nodes k) ≡ Some j)
inner_of nodes boards b d k Done S h = absurd S
inner_of nodes boards b d k (Leaf c rest) S h = absurd (false≢true h.0)
inner_of nodes boards b d k (Holder c s inner rest) S h = (S.0, seen_inner (nodes k) _ S.2)

sheet_zero : (o o' : Option Board) → sheet_in o' ≡ sheet_in o → zero_in o' ≡ zero_in o
sheet_zero None None e = refl
sheet_zero None (Some b') e = absurd (none-some b'.sheet (sym e))
sheet_zero (Some b) None e = absurd (none-some b.sheet e)
sheet_zero (Some b) (Some b') e = ap (λ (s : Sheet). s.zero) (same_Some b'.sheet b.sheet e)

module _ (p q : Patch) (table : Names) (place : Place) (s : Seed) (seeds : List Seed) (key steps steps' : ℕ) (P : IsPartPut p q table place s seeds key steps steps') where
  pub part_within : keys_within q key ≡ P.part
  part_within = sym P.in_order

  pub part_zero : CanPut p → own_zero q ≡ own_zero p
  part_zero can =
      let root = p.grove.root in
      ap (λ (r : ℕ). zero_in (get q.grove.boards r)) P.root
      ∙ ⊎_elim
      (λ (e : root ≡ place.canvas). subst (λ (c : ℕ). zero_in (get q.grove.boards c) ≡ zero_in (get p.grove.boards c)) (sym e)
      (sheet_zero (get p.grove.boards place.canvas) (get q.grove.boards place.canvas) P.grove.sheet))
      (λ (f : root ≢ place.canvas). ap zero_in (P.grove.canvases_stay root f can.forest.rooted.0)) (cases_eq root place.canvas)

  pub part_looks_anywhere : steps' ≤ steps + looks_anywhere q key
  part_looks_anywhere =
      let told = ap (looks_of q.grove q.links) P.in_order in
      let looks = P.looks in
      omega (arith, told, looks)

  pub part_looks : (t : Trees) → one (seed_stand s) (stands_ready seeds) ≡ stands_of t → width t ≡ 1 → HoldsCanvas (stands_of t) → steps' ≤ steps + put_looks q key
  part_looks t are single holds =
      let inner = inner_of (get q.grove.nodes) (get q.grove.boards) place.canvas _ key t (P.stands t are single) holds in
      let is : put_looks q key ≡ 8 + looks_of q.grove q.links (keys_within q key) = ap (looks_with q key) inner.1 in
      let told = ap (looks_of q.grove q.links) P.in_order in
      let looks = P.looks in
      omega (arith, is, told, looks)
