-- Boxes in text order, by their keys and as cells.
use Rattle.std.proofs.Common.{◌≡◌, ◌≢◌, ℕ, zero, suc, ◌+◌, ◌-◌, ◌≤◌, Bool, true, ◌&&◌, List, [], ◌∷◌, ◌++◌, map, Option, Some, None, IsSome, refl, sym, ap, ◌∙◌, subst, arith}
use Rattle.std.specs.Prelude.{option_map}
use Rattle.std.specs.List.{flat_map, AllByRecursion}
use Rattle.std.proofs.lemmas.List.{map-append}
use Rattle.std.proofs.lemmas.Option.{none-some, same_Some}
use Rattle.slab.specs.Slab.{get}
use Rattle.pd_tree.specs.declared.rows.Sheet.{Sheet}
use Rattle.pd_tree.specs.Trees.{Cell, Trees, Done, Leaf, Holder}
use Rattle.pd_grove.specs.declared.nodes.Node.{Node}
use Rattle.pd_grove.specs.declared.boards.Board.{Board}
use Rattle.pd_grove.specs.declared.spots.Spot.{Spot}
use Rattle.pd_grove.specs.declared.grove.Grove.{Grove}
use Rattle.pd_grove.specs.Standing.{NodeSeen, node_seen, Stands, GroveStands}
use Rattle.pd_grove.specs.Telling.{keys_in}
use Rattle.pd_grove.specs.TextOrder.{deep, cells_in_order, is_sub, Placed, placed, placed_in_order, keys_standing, keys_inside, spot, box_spots, spots_among, spots_in_order, keys_of_spots, cell_under, placed_at}
use Rattle.pd_grove.proofs.PlaceLemmas.{seen_cell, seen_keys}

pub spots_none : (nodes : ℕ → Option Node) (boards : ℕ → Option Board) (top : Bool) (keys : List ℕ) → spots_among nodes boards 0 top keys ≡ []
unfolding spots_among
spots_none nodes boards top keys = refl

pub spots_suc : (nodes : ℕ → Option Node) (boards : ℕ → Option Board) (n : ℕ) (top : Bool) (keys : List ℕ)
    → spots_among nodes boards (suc n) top keys ≡ flat_map (λ k. box_spots boards (spots_among nodes boards n) top k (nodes k)) keys
unfolding spots_among
spots_suc nodes boards n top keys = refl

pub spots_some : (nodes : ℕ → Option Node) (boards : ℕ → Option Board) (m : ℕ) (top : Bool) (keys : List ℕ) → m ≢ 0
    → spots_among nodes boards m top keys ≡ flat_map (λ k. box_spots boards (spots_among nodes boards (m - 1)) top k (nodes k)) keys
spots_some nodes boards zero top keys h = absurd (h refl)
spots_some nodes boards (suc n) top keys h =
    let e : n ≡ suc n - 1 = omega arith in
    spots_suc nodes boards n top keys ∙ ap (λ m. flat_map (λ k. box_spots boards (spots_among nodes boards m) top k (nodes k)) keys) e

spots_empty : (nodes : ℕ → Option Node) (boards : ℕ → Option Board) (n : ℕ) (top : Bool) → spots_among nodes boards n top [] ≡ []
spots_empty nodes boards zero top = spots_none nodes boards top []
spots_empty nodes boards (suc n) top = spots_suc nodes boards n top []

-- each of these is a live box
abbrev AreLive : (ℕ → Option Node) → List Spot → Type 0
AreLive nodes spots = AllByRecursion (λ k. IsSome (nodes k)) (keys_of_spots spots)

live_append : (nodes : ℕ → Option Node) (xs ys : List Spot) → AreLive nodes xs → AreLive nodes ys → AreLive nodes (xs ++ ys)
live_append nodes [] ys X Y = Y
live_append nodes (x ∷ xs) ys X Y = (X.0, live_append nodes xs ys X.1 Y)

live_flat : (nodes : ℕ → Option Node) (f : ℕ → List Spot) (ks : List ℕ) → ((k : ℕ) → AreLive nodes (f k)) → AreLive nodes (flat_map f ks)
live_flat nodes f [] F = tt
live_flat nodes f (k ∷ ks) F = live_append nodes (f k) (flat_map f ks) (F k) (live_flat nodes f ks F)

live_box : (nodes : ℕ → Option Node) (boards : ℕ → Option Board) (inside : Bool → List ℕ → List Spot) (top : Bool) (k : ℕ) (o : Option Node) → nodes k ≡ o
    → ((b : Bool) (ks : List ℕ) → AreLive nodes (inside b ks)) → AreLive nodes (box_spots boards inside top k o)
live_box nodes boards inside top k None e I = tt
live_box nodes boards inside top k (Some n) e I = (subst (λ (o : Option Node). IsSome o) (sym e) refl, I _ _)

pub spots_live : (nodes : ℕ → Option Node) (boards : ℕ → Option Board) (n : ℕ) (top : Bool) (ks : List ℕ)
    → AllByRecursion (λ k. IsSome (nodes k)) (keys_of_spots (spots_among nodes boards n top ks))
spots_live nodes boards zero top ks = subst (AreLive nodes) (sym (spots_none nodes boards top ks)) tt
spots_live nodes boards (suc n) top ks =
    subst (AreLive nodes) (sym (spots_suc nodes boards n top ks))
    (live_flat nodes (λ k. box_spots boards (spots_among nodes boards n) top k (nodes k)) ks
    (λ k. live_box nodes boards (spots_among nodes boards n) top k (nodes k) refl (λ b l. spots_live nodes boards n b l)))

-- the boxes that stand, in text order
abbrev pub spots_standing : (nodes : ℕ → Option Node) (boards : ℕ → Option Board) (b d : ℕ) (top : Bool) (keys : List ℕ) (t : Trees) → Stands nodes boards b d keys t → List Spot
spots_standing nodes boards b d top [] Done S = []
spots_standing nodes boards b d top (k ∷ ks) Done S = []
spots_standing nodes boards b d top [] (Leaf c rest) S = []
spots_standing nodes boards b d top (k ∷ ks) (Leaf c rest) S = spot top k ∷ spots_standing nodes boards b d top ks rest S.1
spots_standing nodes boards b d top [] (Holder c s inner rest) S = []
spots_standing nodes boards b d top (k ∷ ks) (Holder c s inner rest) S =
    spot top k ∷ (spots_standing nodes boards S.0 (d + 1) (top && is_sub c.head.form) S.1 inner S.4 ++ spots_standing nodes boards b d top ks rest S.5)

-- a box that is seen, and then those inside it
seen_spots : (boards : ℕ → Option Board) (inside : Bool → List ℕ → List Spot) (top : Bool) (k : ℕ) (o : Option Node) (s : NodeSeen) → option_map node_seen o ≡ Some s
    → box_spots boards inside top k o ≡ spot top k ∷ inside (top && is_sub s.cell.head.form) (keys_inside boards s.inner)
seen_spots boards inside top k None s h = absurd (none-some s h)
seen_spots boards inside top k (Some n) s h =
    ap (λ (x : NodeSeen). spot top k ∷ inside (top && is_sub x.cell.head.form) (keys_inside boards x.inner)) (same_Some (node_seen n) s h)

-- where boxes stand, they are found in their order
flat_stands : (nodes : ℕ → Option Node) (boards : ℕ → Option Board) (n b d : ℕ) (top : Bool) (ks : List ℕ) (t : Trees) → (S : Stands nodes boards b d ks t) → deep t ≤ n
    → flat_map (λ k. box_spots boards (spots_among nodes boards n) top k (nodes k)) ks ≡ spots_standing nodes boards b d top ks t S
flat_stands nodes boards n b d top [] Done S l = refl
flat_stands nodes boards n b d top (k ∷ ks) Done S l = absurd S
flat_stands nodes boards n b d top [] (Leaf c rest) S l = absurd S
flat_stands nodes boards n b d top (k ∷ ks) (Leaf c rest) S l =
    let rests = flat_map (λ k. box_spots boards (spots_among nodes boards n) top k (nodes k)) ks in
    ap (λ x. x ++ rests)
    (seen_spots boards (spots_among nodes boards n) top k (nodes k) _ S.0 ∙ ap (λ x. spot top k ∷ x) (spots_empty nodes boards n (top && is_sub c.head.form)))
    ∙ ap (λ x. spot top k ∷ x) (flat_stands nodes boards n b d top ks rest S.1 (omega (arith, l)))
flat_stands nodes boards n b d top [] (Holder c s inner rest) S l = absurd S
flat_stands nodes boards zero b d top (k ∷ ks) (Holder c s inner rest) S l = absurd (omega (arith, l))
flat_stands nodes boards (suc m) b d top (k ∷ ks) (Holder c s inner rest) S l =
    let top' = top && is_sub c.head.form in
    let inside = spots_standing nodes boards S.0 (d + 1) top' S.1 inner S.4 in
    let rests = flat_map (λ k. box_spots boards (spots_among nodes boards (suc m)) top k (nodes k)) ks in
    let within : spots_among nodes boards (suc m) top' (keys_in (boards S.0)) ≡ inside =
    (ap (λ l. spots_among nodes boards (suc m) top' l) (seen_keys (boards S.0) _ S.3) ∙ spots_suc nodes boards m top' S.1
    ∙ flat_stands nodes boards m S.0 (d + 1) top' S.1 inner S.4 (omega (arith, l))) in
    ap (λ x. x ++ rests) (seen_spots boards (spots_among nodes boards (suc m)) top k (nodes k) _ S.2 ∙ ap (λ x. spot top k ∷ x) within)
    ∙ ap (λ x. spot top k ∷ (inside ++ x)) (flat_stands nodes boards (suc m) b d top ks rest S.5 (omega (arith, l)))

-- the boxes of a tree that stands under keys
pub grove_spots : (g : Grove) (s : Sheet) (t : Trees) (G : GroveStands g s t) → deep t ≤ 256
    → spots_in_order g ≡ spots_standing (get g.nodes) (get g.boards) g.root 0 true G.keys t G.stands
grove_spots g s t G l =
    ap (λ ks. spots_among (get g.nodes) (get g.boards) 257 true ks) (seen_keys (get g.boards g.root) _ G.root)
    ∙ spots_suc (get g.nodes) (get g.boards) 256 true G.keys
    ∙ flat_stands (get g.nodes) (get g.boards) 256 g.root 0 true G.keys t G.stands l

pub keys_stand : (nodes : ℕ → Option Node) (boards : ℕ → Option Board) (b d : ℕ) (top : Bool) (ks : List ℕ) (t : Trees) → (S : Stands nodes boards b d ks t)
    → keys_of_spots (spots_standing nodes boards b d top ks t S) ≡ keys_standing nodes boards b d ks t S
keys_stand nodes boards b d top [] Done S = refl
keys_stand nodes boards b d top (k ∷ ks) Done S = absurd S
keys_stand nodes boards b d top [] (Leaf c rest) S = absurd S
keys_stand nodes boards b d top (k ∷ ks) (Leaf c rest) S = ap (λ x. k ∷ x) (keys_stand nodes boards b d top ks rest S.1)
keys_stand nodes boards b d top [] (Holder c s inner rest) S = absurd S
keys_stand nodes boards b d top (k ∷ ks) (Holder c s inner rest) S =
    let top' = top && is_sub c.head.form in
    let xs = spots_standing nodes boards S.0 (d + 1) top' S.1 inner S.4 in
    let ys = spots_standing nodes boards b d top ks rest S.5 in
    ap (λ x. k ∷ x) (map-append (λ (p : Spot). p.node) xs ys
    ∙ ap (λ x. x ++ keys_of_spots ys) (keys_stand nodes boards S.0 (d + 1) top' S.1 inner S.4)
    ∙ ap (λ x. keys_standing nodes boards S.0 (d + 1) S.1 inner S.4 ++ x) (keys_stand nodes boards b d top ks rest S.5))

pub cells_stand : (nodes : ℕ → Option Node) (boards : ℕ → Option Board) (b d : ℕ) (ks : List ℕ) (t : Trees) → (S : Stands nodes boards b d ks t)
    → map (cell_under nodes) (keys_standing nodes boards b d ks t S) ≡ map (λ c. Some c) (cells_in_order t)
cells_stand nodes boards b d [] Done S = refl
cells_stand nodes boards b d (k ∷ ks) Done S = absurd S
cells_stand nodes boards b d [] (Leaf c rest) S = absurd S
cells_stand nodes boards b d (k ∷ ks) (Leaf c rest) S =
    ap (λ x. x ∷ map (cell_under nodes) (keys_standing nodes boards b d ks rest S.1)) (seen_cell (nodes k) _ S.0)
    ∙ ap (λ x. Some c ∷ x) (cells_stand nodes boards b d ks rest S.1)
cells_stand nodes boards b d [] (Holder c s inner rest) S = absurd S
cells_stand nodes boards b d (k ∷ ks) (Holder c s inner rest) S =
    let f : Cell → Option Cell = λ x. Some x in
    let xs = keys_standing nodes boards S.0 (d + 1) S.1 inner S.4 in
    let ys = keys_standing nodes boards b d ks rest S.5 in
    ap (λ x. x ∷ map (cell_under nodes) (xs ++ ys)) (seen_cell (nodes k) _ S.2)
    ∙ ap (λ x. Some c ∷ x) (map-append (cell_under nodes) xs ys
    ∙ ap (λ x. x ++ map (cell_under nodes) ys) (cells_stand nodes boards S.0 (d + 1) S.1 inner S.4)
    ∙ ap (λ x. map f (cells_in_order inner) ++ x) (cells_stand nodes boards b d ks rest S.5)
    ∙ sym (map-append f (cells_in_order inner) (cells_in_order rest)))

pub placed_stand : (nodes : ℕ → Option Node) (boards : ℕ → Option Board) (b d : ℕ) (top : Bool) (ks : List ℕ) (t : Trees) → (S : Stands nodes boards b d ks t)
    → map (placed_at nodes) (spots_standing nodes boards b d top ks t S) ≡ map (λ p. Some p) (placed_in_order top t)
placed_stand nodes boards b d top [] Done S = refl
placed_stand nodes boards b d top (k ∷ ks) Done S = absurd S
placed_stand nodes boards b d top [] (Leaf c rest) S = absurd S
placed_stand nodes boards b d top (k ∷ ks) (Leaf c rest) S =
    ap (λ o. option_map (placed top) o ∷ map (placed_at nodes) (spots_standing nodes boards b d top ks rest S.1)) (seen_cell (nodes k) _ S.0)
    ∙ ap (λ x. Some (placed top c) ∷ x) (placed_stand nodes boards b d top ks rest S.1)
placed_stand nodes boards b d top [] (Holder c s inner rest) S = absurd S
placed_stand nodes boards b d top (k ∷ ks) (Holder c s inner rest) S =
    let f : Placed → Option Placed = λ x. Some x in
    let top' = top && is_sub c.head.form in
    let xs = spots_standing nodes boards S.0 (d + 1) top' S.1 inner S.4 in
    let ys = spots_standing nodes boards b d top ks rest S.5 in
    ap (λ o. option_map (placed top) o ∷ map (placed_at nodes) (xs ++ ys)) (seen_cell (nodes k) _ S.2)
    ∙ ap (λ x. Some (placed top c) ∷ x) (map-append (placed_at nodes) xs ys
    ∙ ap (λ x. x ++ map (placed_at nodes) ys) (placed_stand nodes boards S.0 (d + 1) top' S.1 inner S.4)
    ∙ ap (λ x. map f (placed_in_order top' inner) ++ x) (placed_stand nodes boards b d top ks rest S.5)
    ∙ sym (map-append f (placed_in_order top' inner) (placed_in_order top rest)))
