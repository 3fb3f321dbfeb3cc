-- The counts of a tree from which a box went with all that lay in it.
use Rattle.std.proofs.Common.{◌≡◌, ◌≤◌, ◌+◌, ℕ, true, false, cond, Bool, List, [], ◌∷◌, ◌++◌, length, map, filter, Option, Some, IsSome, refl, sym, ap, ◌∙◌, subst, arith}
use Rattle.std.specs.Prelude.{option_map, slice_get}
use Rattle.std.specs.List.{AllByRecursion}
use Rattle.std.proofs.lemmas.Option.{slice_get-map}
use Rattle.std.proofs.lemmas.List.{length-append, length-map, map-append}
use Rattle.slab.specs.Slab.{get}
use Rattle.pd_clock.specs.declared.times.Rate.{Rate}
use Rattle.pd_kind.specs.States.{size_of}
use Rattle.pd_tree.specs.Trees.{Cell, Trees, Done, Leaf, Holder, Tree, weight}
use Rattle.pd_grove.specs.declared.nodes.Node.{Node}
use Rattle.pd_grove.specs.declared.grove.Grove.{Grove}
use Rattle.pd_grove.specs.declared.spots.Spot.{Spot}
use Rattle.pd_grove.specs.Forest.{IsForest}
use Rattle.pd_grove.specs.Grafts.{LiesInBox, TakesBox}
use Rattle.pd_grove.specs.Owning.{board_in}
use Rattle.pd_grove.specs.Standing.{node_seen, GroveStands}
use Rattle.pd_grove.specs.Telling.{keys_in}
use Rattle.pd_grove.specs.TextOrder.{deep, cells_in_order, cell_under, keys_in_order, keys_of_spots, keys_standing, spots_among, spots_in_order}
use Rattle.pd_grove.proofs.NestLemmas.{box_deep}
use Rattle.pd_grove.proofs.SpotLemmas.{cells_stand, grove_spots, keys_stand, spots_live}
use Rattle.pd_patch.specs.Sounds.{sound_of}
use Rattle.pd_owning.specs.Bound.{is_among, but, AreNew}
use Rattle.pd_owning.specs.Parts.{ArePart}
use Rattle.pd_owning.proofs.BoundLemmas.{never_twice}
use Rattle.pd_owning.proofs.LessLemmas.{stay, canvas_stays}
use Rattle.pd_owning.proofs.StandLemmas.{stands}
use Rattle.pd_adding.specs.Counted.{sound_seen, sound_among}
use Rattle.pd_clearing.proofs.PartLemmas.{part_live}
use Rattle.pd_take_law.proofs.TotalLemmas.{total, total_length, total_same, total_less, new_once, once_by, there_among}

-- boxes are so many less, which keep so many values
pub record IsLess (rate : Rate) (old new : Trees) (count values : ℕ) : Type 0 where
  pub boxes : weight new + count ≡ weight old
  pub sound : sound_of rate new + values ≡ sound_of rate old

-- The boxes of a tree in text order.

weight_told : (t : Trees) → length (cells_in_order t) ≡ weight t
weight_told Done = refl
weight_told (Leaf c rest) = let h = weight_told rest in omega (arith, h)
weight_told (Holder c s inner rest) =
    let h = weight_told inner in
    let k = weight_told rest in
    let e = length-append (cells_in_order inner) (cells_in_order rest) in
    omega (arith, h, k, e)

sound_join : (r : Rate) (xs ys : List (Option Cell)) → sound_among r (xs ++ ys) ≡ sound_among r xs + sound_among r ys
sound_join r [] ys = omega arith
sound_join r (x ∷ xs) ys = let h = sound_join r xs ys in omega (arith, h)

sound_cells : (r : Rate) (t : Trees) → sound_among r (map (λ c. Some c) (cells_in_order t)) ≡ sound_of r t
sound_cells r Done = refl
sound_cells r (Leaf c rest) = ap (λ n. size_of c.kind r + n) (sound_cells r rest)
sound_cells r (Holder c s inner rest) =
    let f : Cell → Option Cell = λ x. Some x in
    let xs = cells_in_order inner in
    let ys = cells_in_order rest in
    ap (λ n. size_of c.kind r + n)
    (ap (sound_among r) (map-append f xs ys) ∙ sound_join r (map f xs) (map f ys) ∙ (λ i. sound_cells r inner i + sound_cells r rest i))

-- how many values the box of a key keeps
abbrev value_at : Rate → (ℕ → Option Node) → ℕ → ℕ
value_at rate nodes k = sound_seen rate (cell_under nodes k)

pub total_values : (rate : Rate) (nodes : ℕ → Option Node) (ks : List ℕ) → total (value_at rate nodes) ks ≡ sound_among rate (map (cell_under nodes) ks)
total_values rate nodes [] = refl
total_values rate nodes (k ∷ ks) = ap (λ n. sound_seen rate (cell_under nodes k) + n) (total_values rate nodes ks)

module _ (g : Grove) (t : Tree) (G : GroveStands g t.sheet t.boxes) (low : deep t.boxes ≤ 256) where
  keys_told : keys_in_order g ≡ keys_standing (get g.nodes) (get g.boards) g.root 0 G.keys t.boxes G.stands
  keys_told = ap keys_of_spots (grove_spots g t.sheet t.boxes G low) ∙ keys_stand (get g.nodes) (get g.boards) g.root 0 true G.keys t.boxes G.stands

  cells_told : map (cell_under (get g.nodes)) (keys_in_order g) ≡ map (λ c. Some c) (cells_in_order t.boxes)
  cells_told = ap (map (cell_under (get g.nodes))) keys_told ∙ cells_stand (get g.nodes) (get g.boards) g.root 0 G.keys t.boxes G.stands

  boxes_told : total (λ k. 1) (keys_in_order g) ≡ weight t.boxes
  boxes_told =
      let f : Cell → Option Cell = λ c. Some c in
      total_length (keys_in_order g) ∙ sym (length-map (keys_in_order g) (cell_under (get g.nodes))) ∙ ap (λ (os : List (Option Cell)). length os) cells_told
      ∙ length-map (cells_in_order t.boxes) f ∙ weight_told t.boxes

  values_told : (rate : Rate) → total (value_at rate (get g.nodes)) (keys_in_order g) ≡ sound_of rate t.boxes
  values_told rate = total_values rate (get g.nodes) (keys_in_order g) ∙ ap (sound_among rate) cells_told ∙ sound_cells rate t.boxes

keys_cond : (b : Bool) (p : Spot) (ps : List Spot) (ks : List ℕ) → keys_of_spots ps ≡ ks → keys_of_spots (cond b (p ∷ ps) ps) ≡ cond b (p.node ∷ ks) ks
keys_cond true p ps ks e = ap (λ (l : List ℕ). p.node ∷ l) e
keys_cond false p ps ks e = e

keys_stay : (away : List ℕ) (ps : List Spot) → keys_of_spots (filter (stay away) ps) ≡ but away (keys_of_spots ps)
keys_stay away [] = refl
keys_stay away (p ∷ ps) = keys_cond (stay away p) p (filter (stay away) ps) (but away (keys_of_spots ps)) (keys_stay away ps)

key_there : (ps : List Spot) (i : ℕ) (p : Spot) → slice_get ps i ≡ Some p → slice_get (keys_of_spots ps) i ≡ Some p.node
key_there ps i p at = slice_get-map (λ (q : Spot). q.node) ps i ∙ ap (option_map (λ (q : Spot). q.node)) at

same_value : (rate : Rate) (nodes nodes' : ℕ → Option Node) (ks : List ℕ) → ((k : ℕ) → IsSome (nodes' k) → nodes' k ≡ nodes k) → AllByRecursion (λ k. IsSome (nodes' k)) ks
    → AllByRecursion (λ k. value_at rate nodes' k ≡ value_at rate nodes k) ks
same_value rate nodes nodes' [] same A = tt
same_value rate nodes nodes' (k ∷ ks) same A =
    (ap (λ (o : Option Node). sound_seen rate (option_map (λ (n : Node). (node_seen n).cell) o)) (same k A.0), same_value rate nodes nodes' ks same A.1)

-- A box goes with all that lies in it.

module _ (g h : Grove) (c k : ℕ) (n : Node) (before behind part : List ℕ) (F : IsForest (get g.nodes) (get g.boards) g.root) (root : h.root ≡ g.root)
    (T : TakesBox (get g.nodes) (get h.nodes) (get g.boards) (get h.boards) c k n before behind) (A : ArePart (get g.nodes) (get g.boards) k part) (once : AreNew part []) where
  keys_left : keys_in_order h ≡ but part (keys_in_order g)
  keys_left =
      let lies : board_in (get g.nodes k) ≡ Some c = ap board_in T.was ∙ ap (λ y. Some y) T.lay in
      let out : LiesInBox (get g.nodes) (get g.boards) k g.root → ⊥ =
      (λ L. let d = box_deep (get g.nodes) (get g.boards) g.root k c g.root F lies L in let z = F.rooted.2 in absurd (omega (arith, d, z))) in
      ap keys_of_spots (ap (λ r. spots_among (get h.nodes) (get h.boards) 257 true (keys_in (get h.boards r))) root
      ∙ sym (canvas_stays (get g.nodes) (get g.boards) g.root F (get h.nodes) (get h.boards) c k n before behind T part A 257 g.root true out))
      ∙ keys_stay part (spots_in_order g)

  in_order : (x : ℕ) → is_among part x ≡ true → is_among (keys_in_order g) x ≡ true
  in_order x at =
      let s = stands (get g.nodes) (get g.boards) g.root F x (part_live (get g.nodes) (get g.boards) g.root F k part A (subst (λ (o : Option Node). IsSome o) (sym T.was) refl) x at) in
      there_among (keys_in_order g) s.0 x (key_there (spots_in_order g) s.0 _ s.1)

  less_by : (f : ℕ → ℕ) → total f (keys_in_order h) + total f part ≡ total f (keys_in_order g)
  less_by f =
      let less = total_less f part (keys_in_order g) (new_once part once)
      (once_by (keys_in_order g) (λ i j x l a b. never_twice g F x (record { first = i; second = j; at = a; other_at = b; less = l }))) in_order in
      let left = ap (total f) keys_left in
      omega (arith, less, left)

  pub trees_less : (rate : Rate) (t u : Tree) → GroveStands g t.sheet t.boxes → deep t.boxes ≤ 256 → GroveStands h u.sheet u.boxes → deep u.boxes ≤ 256
      → IsLess rate t.boxes u.boxes (length part) (sound_among rate (map (cell_under (get g.nodes)) part))
  trees_less rate t u G low H low' =
      let ones = less_by (λ x. 1) in
      let count = total_length part in
      let was = boxes_told g t G low in
      let is = boxes_told h u H low' in
      let same = total_same (value_at rate (get h.nodes)) (value_at rate (get g.nodes)) (keys_in_order h)
      (same_value rate (get g.nodes) (get h.nodes) (keys_in_order h) T.none_comes (spots_live (get h.nodes) (get h.boards) 257 true (keys_in (get h.boards h.root)))) in
      let sound = less_by (value_at rate (get g.nodes)) in
      let values = total_values rate (get g.nodes) part in
      let sound_was = values_told g t G low rate in
      let sound_is = values_told h u H low' rate in
      record {
        boxes = omega (arith, ones, count, was, is);
        sound = omega (arith, same, sound, values, sound_was, sound_is);
      }
