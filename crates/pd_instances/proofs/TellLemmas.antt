-- A box that came with all that lies in it, in text order: these are the boxes of the list from which it grew.
use Rattle.std.proofs.Common.{◌≡◌, ℕ, zero, suc, ◌+◌, ◌-◌, ◌<◌, ◌≤◌, Bool, true, false, ◌&&◌, cond, List, [], ◌∷◌, ◌++◌, append-nil, append_assoc, map, filter, length, length-append, Option, Some, None, IsSome, refl, sym, ap, ◌∙◌, subst, arith}
use Rattle.std.specs.Prelude.{option_map, option_and_then}
use Rattle.std.specs.List.{flat_map}
use Rattle.std.proofs.lemmas.List.{map-append}
use Rattle.std.proofs.lemmas.Option.{none-some, same_Some}
use Rattle.slab.specs.Slab.{get}
use Rattle.pd_atom.specs.Names.{Names}
use Rattle.pd_name.specs.declared.Class.{Class}
use Rattle.pd_object.specs.declared.kinds.Kind.{Kind}
use Rattle.pd_object.specs.declared.kinds.Kind.TheVariants as kind
use Rattle.pd_tree.specs.Trees.{Cell, Trees, Done, Leaf, Holder, Stand, weight, width, stands_of}
use Rattle.pd_grove.specs.declared.nodes.Node.{Node}
use Rattle.pd_grove.specs.declared.boards.Board.{Board}
use Rattle.pd_grove.specs.declared.grove.Grove.{Grove}
use Rattle.pd_grove.specs.declared.spots.Spot.{Spot}
use Rattle.pd_grove.specs.Owning.{board_in}
use Rattle.pd_grove.specs.Standing.{NodeSeen, node_seen, Stands, depth_of}
use Rattle.pd_grove.specs.Telling.{keys_in}
use Rattle.pd_grove.specs.TextOrder.{deep, cells_in_order, is_sub, keys_standing, keys_inside, spot, box_spots, spots_among, keys_of_spots, cell_under}
use Rattle.pd_grove.proofs.PlaceLemmas.{seen_cell, seen_keys}
use Rattle.pd_grove.proofs.SpotLemmas.{spots_none, spots_suc, spots_standing, keys_stand}
use Rattle.pd_bind.specs.Naming.{Owned, owned_by, owned_by_kind}
use Rattle.pd_bind.specs.Owning.{is_owned, owned_at, boxes_owning}
use Rattle.pd_owning.specs.Order.{level}
use Rattle.pd_owning.specs.Parts.{part_spots}
use Rattle.pd_owning.proofs.OutLemmas.{level_is}
use Rattle.pd_instances.specs.Needs.{Inside, need_at, needs_of, inside_at, insides_of}
use Rattle.pd_instances.proofs.NeedLemmas.{needs_all, needs_stand, insides_all, insides_stand}

-- In text order.

spots_empty : (nodes : ℕ → Option Node) (boards : ℕ → Option Board) (n : ℕ) (top : Bool) → spots_among nodes boards n top [] ≡ []
spots_empty nodes boards zero top = spots_none nodes boards top []
spots_empty nodes boards (suc n) top = spots_suc nodes boards n top []

-- a box that is seen, and then those inside it
seen_spots : (boards : ℕ → Option Board) (inside : Bool → List ℕ → List Spot) (top : Bool) (k : ℕ) (o : Option Node) (s : NodeSeen) → option_map node_seen o ≡ Some s
    → box_spots boards inside top k o ≡ spot top k ∷ inside (top && is_sub s.cell.head.form) (keys_inside boards s.inner)
seen_spots boards inside top k None s h = absurd (none-some s h)
seen_spots boards inside top k (Some n) s h =
    ap (λ (x : NodeSeen). spot top k ∷ inside (top && is_sub x.cell.head.form) (keys_inside boards x.inner)) (same_Some (node_seen n) s h)

-- where boxes stand, they are found in their order
flat_stands : (nodes : ℕ → Option Node) (boards : ℕ → Option Board) (n b d : ℕ) (top : Bool) (ks : List ℕ) (t : Trees) → (S : Stands nodes boards b d ks t) → deep t ≤ n
    → flat_map (λ k. box_spots boards (spots_among nodes boards n) top k (nodes k)) ks ≡ spots_standing nodes boards b d top ks t S
flat_stands nodes boards n b d top [] Done S l = refl
flat_stands nodes boards n b d top (k ∷ ks) Done S l = absurd S
flat_stands nodes boards n b d top [] (Leaf c rest) S l = absurd S
flat_stands nodes boards n b d top (k ∷ ks) (Leaf c rest) S l =
    let rests = flat_map (λ k. box_spots boards (spots_among nodes boards n) top k (nodes k)) ks in
    ap (λ x. x ++ rests)
    (seen_spots boards (spots_among nodes boards n) top k (nodes k) _ S.0 ∙ ap (λ x. spot top k ∷ x) (spots_empty nodes boards n (top && is_sub c.head.form)))
    ∙ ap (λ x. spot top k ∷ x) (flat_stands nodes boards n b d top ks rest S.1 (omega (arith, l)))
flat_stands nodes boards n b d top [] (Holder c s inner rest) S l = absurd S
flat_stands nodes boards zero b d top (k ∷ ks) (Holder c s inner rest) S l = absurd (omega (arith, l))
flat_stands nodes boards (suc m) b d top (k ∷ ks) (Holder c s inner rest) S l =
    let top' = top && is_sub c.head.form in
    let inside = spots_standing nodes boards S.0 (d + 1) top' S.1 inner S.4 in
    let rests = flat_map (λ k. box_spots boards (spots_among nodes boards (suc m)) top k (nodes k)) ks in
    let within : spots_among nodes boards (suc m) top' (keys_in (boards S.0)) ≡ inside =
    (ap (λ l. spots_among nodes boards (suc m) top' l) (seen_keys (boards S.0) _ S.3) ∙ spots_suc nodes boards m top' S.1
    ∙ flat_stands nodes boards m S.0 (d + 1) top' S.1 inner S.4 (omega (arith, l))) in
    ap (λ x. x ++ rests) (seen_spots boards (spots_among nodes boards (suc m)) top k (nodes k) _ S.2 ∙ ap (λ x. spot top k ∷ x) within)
    ∙ ap (λ x. spot top k ∷ (inside ++ x)) (flat_stands nodes boards (suc m) b d top ks rest S.5 (omega (arith, l)))

keys_counted : (nodes : ℕ → Option Node) (boards : ℕ → Option Board) (b d : ℕ) (ks : List ℕ) (t : Trees) → (S : Stands nodes boards b d ks t) → length (keys_standing nodes boards b d ks t S) ≡ weight t
keys_counted nodes boards b d [] Done S = refl
keys_counted nodes boards b d (k ∷ ks) Done S = absurd S
keys_counted nodes boards b d [] (Leaf c rest) S = absurd S
keys_counted nodes boards b d (k ∷ ks) (Leaf c rest) S = let h = keys_counted nodes boards b d ks rest S.1 in omega (arith, h)
keys_counted nodes boards b d [] (Holder c s inner rest) S = absurd S
keys_counted nodes boards b d (k ∷ ks) (Holder c s inner rest) S =
    let h = keys_counted nodes boards S.0 (d + 1) S.1 inner S.4 in
    let r = keys_counted nodes boards b d ks rest S.5 in
    let n = length-append (keys_standing nodes boards S.0 (d + 1) S.1 inner S.4) (keys_standing nodes boards b d ks rest S.5) in
    omega (arith, h, r, n)

pub stands_counted : (t : Trees) → length (stands_of t) ≡ weight t
stands_counted Done = refl
stands_counted (Leaf c rest) = let h = stands_counted rest in omega (arith, h)
stands_counted (Holder c s inner rest) =
    let h = stands_counted inner in
    let r = stands_counted rest in
    let n = length-append (stands_of inner) (stands_of rest) in
    omega (arith, h, r, n)

-- A box that stands in a canvas, with what it holds.
module _ (g : Grove) (c key : ℕ) (t : Trees) (S : Stands (get g.nodes) (get g.boards) c (depth_of (get g.boards c)) (key ∷ []) t) (lies : board_in (get g.nodes key) ≡ Some c)
    (low : depth_of (get g.boards c) + deep t < 257) (top : Bool) where
  abbrev part : List Spot
  part = part_spots (get g.nodes) (get g.boards) (spot top key)

  pub part_stands : part_spots (get g.nodes) (get g.boards) (spot top key) ≡ spots_standing (get g.nodes) (get g.boards) c (depth_of (get g.boards c)) top (key ∷ []) t S
  part_stands =
      let here = level_is (get g.nodes) (get g.boards) key c lies in
      sym (append-nil part)
      ∙ flat_stands (get g.nodes) (get g.boards) (256 - level (get g.nodes) (get g.boards) key) c (depth_of (get g.boards c)) top (key ∷ []) t S (omega (arith, here, low))

  pub part_keys : keys_of_spots (part_spots (get g.nodes) (get g.boards) (spot top key)) ≡ keys_standing (get g.nodes) (get g.boards) c (depth_of (get g.boards c)) (key ∷ []) t S
  part_keys = ap keys_of_spots part_stands ∙ keys_stand (get g.nodes) (get g.boards) c (depth_of (get g.boards c)) top (key ∷ []) t S

  -- each has what it needs by the list
  pub part_needs : (ss : List Stand) → ss ≡ stands_of t → map (need_at g) (keys_of_spots (part_spots (get g.nodes) (get g.boards) (spot top key))) ≡ needs_of ss
  part_needs ss e = ap (map (need_at g)) part_keys ∙ needs_stand g c (depth_of (get g.boards c)) (key ∷ []) t S ∙ sym (needs_all ss t e)

  pub part_insides : (ss : List Stand) → ss ≡ stands_of t → flat_map (inside_at g) (keys_of_spots (part_spots (get g.nodes) (get g.boards) (spot top key))) ≡ insides_of ss
  part_insides ss e = ap (flat_map (inside_at g)) part_keys ∙ insides_stand g c (depth_of (get g.boards c)) (key ∷ []) t S ∙ sym (insides_all ss t e)

  -- and there are as many
  pub part_length : (ss : List Stand) → ss ≡ stands_of t → length (part_spots (get g.nodes) (get g.boards) (spot top key)) ≡ length ss
  part_length ss e =
      sym (mapped (part_spots (get g.nodes) (get g.boards) (spot top key))) ∙ ap length part_keys ∙ keys_counted (get g.nodes) (get g.boards) c (depth_of (get g.boards c)) (key ∷ []) t S
      ∙ sym (stands_counted t) ∙ ap length (sym e)
    where
      mapped : (ps : List Spot) → length (keys_of_spots ps) ≡ length ps
      mapped [] = refl
      mapped (p ∷ ps) = ap suc (mapped ps)

-- The kind of the box, by the first of the list.

seen_kind : (o : Option Node) (n : Node) (s : NodeSeen) → o ≡ Some n → option_map node_seen o ≡ Some s → n.kind ≡ s.cell.kind
seen_kind None n s is h = absurd (none-some n is)
seen_kind (Some m) n s is h = ap (λ (x : Node). x.kind) (sym (same_Some m n is)) ∙ ap (λ (x : NodeSeen). x.cell.kind) (same_Some (node_seen m) s h)

first : (x : Stand) (xs : List Stand) (y : Stand) (ys : List Stand) → ◌≡◌ {A = List Stand} (x ∷ xs) (y ∷ ys) → x ≡ y
first x xs y ys e = ap (head x) e
  where
    head : Stand → List Stand → Stand
    head d [] = d
    head d (z ∷ zs) = z

pub first_kind : (nodes : ℕ → Option Node) (boards : ℕ → Option Board) (c d key : ℕ) (t : Trees) (s : Stand) (ss : List Stand) (n : Node) → s ∷ ss ≡ stands_of t → Stands nodes boards c d (key ∷ []) t
    → nodes key ≡ Some n → n.kind ≡ s.cell.kind
first_kind nodes boards c d key Done s ss n e S is = absurd S
first_kind nodes boards c d key (Leaf x rest) s ss n e S is =
    seen_kind (nodes key) n _ is S.0 ∙ ap (λ (y : Stand). y.cell.kind) (sym (first s ss _ (stands_of rest) e))
first_kind nodes boards c d key (Holder x sheet inner rest) s ss n e S is =
    seen_kind (nodes key) n _ is S.2 ∙ ap (λ (y : Stand). y.cell.kind) (sym (first s ss _ (stands_of inner ++ stands_of rest) e))

-- Telling.

pub told_part : (g : Grove) (c key : ℕ) (top : Bool) (levels : ℕ) → board_in (get g.nodes key) ≡ Some c → levels ≡ 256 - depth_of (get g.boards c)
    → box_spots (get g.boards) (spots_among (get g.nodes) (get g.boards) levels) top key (get g.nodes key) ≡ part_spots (get g.nodes) (get g.boards) (spot top key)
told_part g c key top levels lies e =
    ap (λ n. box_spots (get g.boards) (spots_among (get g.nodes) (get g.boards) n) top key (get g.nodes key)) (e ∙ ap (λ d. 256 - d) (sym (level_is (get g.nodes) (get g.boards) key c lies)))

pub spot_same : (p : Spot) (key : ℕ) → p.node ≡ key → p ≡ spot p.is_top key
spot_same p key e = ap (spot p.is_top) e
