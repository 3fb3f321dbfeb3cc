-- How many boxes go with one: as many as it is with those that lie in it, by the tree that stands.
use Rattle.std.proofs.Common.{◌≡◌, ℕ, zero, suc, ◌+◌, ◌-◌, ◌≤◌, ◌<◌, Bool, true, false, ◌&&◌, List, [], ◌∷◌, length, slice_get, Option, Some, None, IsSome, nat_eq, refl, sym, ap, ◌∙◌, subst, arith}
use Rattle.std.specs.Prelude.{option_map}
use Rattle.std.specs.Cmp.{both_ways}
use Rattle.std.specs.List.{AllByRecursion, IsDistinct, flat_map}
use Rattle.std.proofs.lemmas.Bool.{or_parts, ne_eqb}
use Rattle.std.proofs.lemmas.Cmp.{nat_eq_equiv}
use Rattle.std.proofs.lemmas.List.{append-nil, length-append, length-map}
use Rattle.std.proofs.lemmas.Map.Made.{length-from_same_keys}
use Rattle.std.proofs.lemmas.Option.{none-some, same_Some}
use Rattle.pd_tree.specs.Trees.{Trees, Done, Leaf, Holder, weight}
use Rattle.pd_grove.specs.declared.boards.Board.{Board}
use Rattle.pd_grove.specs.declared.nodes.Node.{Node}
use Rattle.pd_grove.specs.declared.spots.Spot.{Spot}
use Rattle.pd_grove.specs.Forest.{IsForest}
use Rattle.pd_grove.specs.Standing.{NodeSeen, node_seen, depth_of, Stands}
use Rattle.pd_grove.specs.Telling.{keys_in}
use Rattle.pd_grove.specs.TextOrder.{deep, is_sub, keys_inside, spot, box_spots, spots_among, keys_of_spots}
use Rattle.pd_grove.proofs.PlaceLemmas.{seen_keys}
use Rattle.pd_grove.proofs.SpotLemmas.{spots_suc}
use Rattle.pd_owning.specs.Bound.{is_among, AreNew}
use Rattle.pd_owning.specs.Order.{level}
use Rattle.pd_owning.specs.Parts.{ArePart}
use Rattle.pd_owning.proofs.LessLemmas.{empty}
use Rattle.pd_owning.proofs.OrderLemmas.{Comes, InTurn, box_turn, never_itself}
use Rattle.pd_owning.proofs.OutLemmas.{level_at}
use Rattle.pd_owning.proofs.PartLemmas.{are_part}
use Rattle.pd_putting_law.proofs.StandLemmas.{deep_within}
use Rattle.pd_engine.proofs.LessLemmas.{box_weight}

-- ---- keys that stand once

all_apart : (k : ℕ) (xs : List ℕ) → is_among xs k ≡ false → AllByRecursion (λ y. nat_eq k y ≡ false) xs
all_apart k [] e = tt
all_apart k (x ∷ xs) e = (let p = or_parts (nat_eq k x) (is_among xs k) e in (p.0, all_apart k xs p.1))

new_distinct : (xs : List ℕ) → AreNew xs [] → IsDistinct nat_eq xs
unfolding IsDistinct
new_distinct [] N = tt
new_distinct (k ∷ ks) N = (all_apart k ks (ap (λ (l : List ℕ). is_among l k) (sym (append-nil ks)) ∙ N.0), new_distinct ks N.1)

module _ (nodes : ℕ → Option Node) (boards : ℕ → Option Board) (root : ℕ) (F : IsForest nodes boards root) where
  turn_apart : (k : ℕ) (ps : List Spot) → AllByRecursion (λ q. Comes nodes boards k q.node) ps → AllByRecursion (λ y. nat_eq k y ≡ false) (keys_of_spots ps)
  turn_apart k [] A = tt
  turn_apart k (q ∷ qs) A =
      (ne_eqb k q.node (λ e. never_itself nodes boards root F k (subst (λ (y : ℕ). Comes nodes boards k y) (sym e) A.0)), turn_apart k qs A.1)

  turn_distinct : (ps : List Spot) → InTurn (Comes nodes boards) ps → IsDistinct nat_eq (keys_of_spots ps)
  unfolding IsDistinct
  turn_distinct [] T = tt
  turn_distinct (p ∷ ps) T = (turn_apart p.node ps T.0, turn_distinct ps T.1)

  abbrev told : ℕ → List Spot
  told k = box_spots boards (spots_among nodes boards (256 - level nodes boards k)) true k (nodes k)

  -- a box and those in it are as many as are told
  part_told : (k : ℕ) (part : List ℕ) → IsSome (nodes k) → ArePart nodes boards k part → AreNew part [] → length part ≡ length (told k)
  part_told k part live P N =
      let Q : ArePart nodes boards k (keys_of_spots (told k)) = are_part nodes boards root F k true live in
      let same : length part ≡ length (keys_of_spots (told k)) =
      length-from_same_keys nat_eq_equiv part (keys_of_spots (told k)) (new_distinct part N) (turn_distinct (told k) (box_turn nodes boards root F (256 - level nodes boards k) true k).turn)
      (λ x. both_ways (is_among part x) (is_among (keys_of_spots (told k)) x) (λ t. (Q x).1 ((P x).0 t)) (λ t. (P x).1 ((Q x).0 t))) in
      same ∙ length-map (told k) (λ (p : Spot). p.node)

-- ---- as many as the tree has

-- a box that is seen, and then those inside it
seen_spots : (boards : ℕ → Option Board) (inside : Bool → List ℕ → List Spot) (top : Bool) (k : ℕ) (o : Option Node) (s : NodeSeen) → option_map node_seen o ≡ Some s
    → box_spots boards inside top k o ≡ spot top k ∷ inside (top && is_sub s.cell.head.form) (keys_inside boards s.inner)
seen_spots boards inside top k None s h = absurd (none-some s h)
seen_spots boards inside top k (Some n) s h =
    ap (λ (x : NodeSeen). spot top k ∷ inside (top && is_sub x.cell.head.form) (keys_inside boards x.inner)) (same_Some (node_seen n) s h)

module _ (nodes : ℕ → Option Node) (boards : ℕ → Option Board) where
  abbrev box_at : ℕ → Bool → ℕ → List Spot
  box_at n top k = box_spots boards (spots_among nodes boards n) top k (nodes k)

  -- a box that holds no canvas is one
  leaf_told : (n : ℕ) (top : Bool) (k : ℕ) (s : NodeSeen) → option_map node_seen (nodes k) ≡ Some s → s.inner ≡ None → length (box_at n top k) ≡ 1
  leaf_told n top k s h bare =
      ap length (seen_spots boards (spots_among nodes boards n) top k (nodes k) s h
      ∙ ap (λ (o : Option ℕ). spot top k ∷ spots_among nodes boards n (top && is_sub s.cell.head.form) (keys_inside boards o)) bare
      ∙ ap (λ (x : List Spot). spot top k ∷ x) (empty nodes boards n (top && is_sub s.cell.head.form)))

  one_more : (a b w : ℕ) → a ≡ 1 → b ≡ w → a + b ≡ w + 1
  one_more a b w e f = omega (arith, e, f)

  these_more : (a b v w : ℕ) → a ≡ v + 1 → b ≡ w → a + b ≡ v + w + 1
  these_more a b v w e f = omega (arith, e, f)

  with_itself : (a w : ℕ) → a ≡ w → suc a ≡ w + 1
  with_itself a w e = omega (arith, e)

  -- a box that holds a canvas, and so many boxes in it
  holder_told : (m w : ℕ) (top : Bool) (k : ℕ) (s : NodeSeen) (j : ℕ) (js : List ℕ) → option_map node_seen (nodes k) ≡ Some s → s.inner ≡ Some j → keys_in (boards j) ≡ js
      → length (flat_map (box_at m (top && is_sub s.cell.head.form)) js) ≡ w → length (box_at (suc m) top k) ≡ w + 1
  holder_told m w top k s j js h holds has many =
      let top' : Bool = top && is_sub s.cell.head.form in
      let within : spots_among nodes boards (suc m) top' (keys_in (boards j)) ≡ flat_map (box_at m top') js =
      ap (λ (l : List ℕ). spots_among nodes boards (suc m) top' l) has ∙ spots_suc nodes boards m top' js in
      ap length (seen_spots boards (spots_among nodes boards (suc m)) top k (nodes k) s h
      ∙ ap (λ (o : Option ℕ). spot top k ∷ spots_among nodes boards (suc m) top' (keys_inside boards o)) holds
      ∙ ap (λ (x : List Spot). spot top k ∷ x) within)
      ∙ with_itself (length (flat_map (box_at m top') js)) w many

  boxes_told : (n b d : ℕ) (top : Bool) (ks : List ℕ) (t : Trees) → Stands nodes boards b d ks t → deep t ≤ n → length (flat_map (box_at n top) ks) ≡ weight t
  boxes_told n b d top [] Done S low = refl
  boxes_told n b d top (k ∷ ks) Done S low = absurd S
  boxes_told n b d top [] (Leaf c rest) S low = absurd S
  boxes_told n b d top (k ∷ ks) (Leaf c rest) S low =
      length-append (box_at n top k) (flat_map (box_at n top) ks)
      ∙ one_more (length (box_at n top k)) (length (flat_map (box_at n top) ks)) (weight rest) (leaf_told n top k _ S.0 refl) (boxes_told n b d top ks rest S.1 low)
  boxes_told n b d top [] (Holder c s inner rest) S low = absurd S
  boxes_told zero b d top (k ∷ ks) (Holder c s inner rest) S low = absurd (omega (arith, low))
  boxes_told (suc m) b d top (k ∷ ks) (Holder c s inner rest) S low =
      length-append (box_at (suc m) top k) (flat_map (box_at (suc m) top) ks)
      ∙ these_more (length (box_at (suc m) top k)) (length (flat_map (box_at (suc m) top) ks)) (weight inner) (weight rest)
      (holder_told m (weight inner) top k _ S.0 S.1 S.2 refl (seen_keys (boards S.0) _ S.3) (boxes_told m S.0 (d + 1) (top && is_sub c.head.form) S.1 inner S.4 (omega (arith, low))))
      (boxes_told (suc m) b d top ks rest S.5 (omega (arith, low)))

  -- the box of a number
  box_told : (m b d : ℕ) (top : Bool) (keys : List ℕ) (t : Trees) (n key : ℕ) → Stands nodes boards b d keys t → slice_get keys n ≡ Some key → deep t ≤ m
      → length (box_at m top key) ≡ box_weight n t
  box_told m b d top [] t n key S at low = absurd (none-some key at)
  box_told m b d top (k ∷ ks) Done n key S at low = absurd S
  box_told m b d top (k ∷ ks) (Leaf c rest) zero key S at low =
      ap (λ (x : ℕ). length (box_at m top x)) (sym (same_Some k key at)) ∙ leaf_told m top k _ S.0 refl
  box_told m b d top (k ∷ ks) (Leaf c rest) (suc n) key S at low = box_told m b d top ks rest n key S.1 at low
  box_told zero b d top (k ∷ ks) (Holder c s inner rest) n key S at low = absurd (omega (arith, low))
  box_told (suc m) b d top (k ∷ ks) (Holder c s inner rest) zero key S at low =
      ap (λ (x : ℕ). length (box_at (suc m) top x)) (sym (same_Some k key at))
      ∙ holder_told m (weight inner) top k _ S.0 S.1 S.2 refl (seen_keys (boards S.0) _ S.3) (boxes_told m S.0 (d + 1) (top && is_sub c.head.form) S.1 inner S.4 (omega (arith, low)))
  box_told (suc m) b d top (k ∷ ks) (Holder c s inner rest) (suc n) key S at low = box_told (suc m) b d top ks rest n key S.5 at (omega (arith, low))

-- ---- a box of a canvas that stands

pub part_weight : (nodes : ℕ → Option Node) (boards : ℕ → Option Board) (root : ℕ) → IsForest nodes boards root → (b d : ℕ) (keys : List ℕ) (t : Trees) (n key : ℕ) (part : List ℕ)
    → Stands nodes boards b d keys t → depth_of (boards b) ≡ d → keys_in (boards b) ≡ keys → slice_get keys n ≡ Some key → IsSome (nodes key)
    → ArePart nodes boards key part → AreNew part [] → length part ≡ box_weight n t
part_weight nodes boards root F b d keys t n key part S depth has at live P N =
    let low : depth_of (boards b) < 257 = F.shallow b in
    let here : level nodes boards key ≡ depth_of (boards b) = level_at nodes boards root F b n key (ap (λ (l : List ℕ). slice_get l n) has ∙ at) in
    let deep_in : deep t + d ≤ 256 = deep_within nodes boards b d keys t F.shallow S (omega (arith, low, depth)) in
    part_told nodes boards root F key part live P N ∙ box_told nodes boards (256 - level nodes boards key) b d true keys t n key S at (omega (arith, deep_in, here, depth, low))
