-- A box that came with all that lies in it owns no more names than were counted.
use Rattle.std.proofs.Common.{◌≡◌, ◌≢◌, ℕ, suc, ◌+◌, ◌≤◌, ◌^◌, Bool, true, false, ◌&&◌, cond, List, [], ◌∷◌, ◌++◌, filter, length, length-append, Option, Some, None, refl, sym, ap, ◌∙◌, subst, arith}
use Rattle.std.specs.Prelude.{option_and_then, option_map}
use Rattle.std.proofs.lemmas.Bool.{false≢true}
use Rattle.std.proofs.lemmas.List.Elements.{filter-append}
use Rattle.slab.specs.Slab.{get}
use Rattle.pd_atom.specs.Names.{Names}
use Rattle.pd_name.specs.declared.Class.{Class}
use Rattle.pd_name.specs.Rows.{Row}
use Rattle.pd_object.specs.declared.kinds.Kind.{Kind}
use Rattle.pd_object.specs.declared.kinds.Kind.TheVariants as kind
use Rattle.pd_tree.specs.Trees.{Cell, Trees, Done, Leaf, Holder, Stand, stands_of, width}
use Rattle.pd_tree.specs.declared.rows.Sheet.{Sheet}
use Rattle.pd_grove.specs.declared.nodes.Node.{Node}
use Rattle.pd_grove.specs.declared.boards.Board.{Board}
use Rattle.pd_grove.specs.declared.spots.Spot.{Spot}
use Rattle.pd_grove.specs.Standing.{NodeSeen, Stands, node_seen}
use Rattle.pd_grove.specs.TextOrder.{cell_under, is_sub, keys_of_spots, spot}
use Rattle.pd_grove.proofs.SpotLemmas.{spots_standing}
use Rattle.pd_grove.proofs.PlaceLemmas.{seen_cell}
use Rattle.pd_bind.specs.Naming.{owned_by, owned_by_kind}
use Rattle.pd_bind.specs.Owning.{boxes_owning, is_owned, owned_at}
use Rattle.pd_owning.specs.Bound.{HasRoom}
use Rattle.pd_instances.specs.Room.{owning_among}

abbrev stand : Cell → Option Sheet → ℕ → Stand
stand c s n = record { cell = c; sheet = s; boxes = n }

more_kept : {X Y : Type 0} (b b' : Bool) (x : X) (y : Y) (xs : List X) (ys : List Y) → (b ≡ true → b' ≡ true) → length xs ≤ length ys → length (cond b (x ∷ xs) xs) ≤ length (cond b' (y ∷ ys) ys)
more_kept false false x y xs ys f l = l
more_kept false true x y xs ys f l = omega (arith, l)
more_kept true false x y xs ys f l = absurd (false≢true (f refl))
more_kept true true x y xs ys f l = omega (arith, l)

-- in the patch's own document a box owns all that it owns elsewhere
kind_owned : (table : Names) (class : Class) (name : ℕ) (c : Cell) (k : Kind) → is_owned class name (owned_by_kind table false c k) ≡ true → is_owned class name (owned_by_kind table true c k) ≡ true
kind_owned table class name c (kind.Glue g) h = h
kind_owned table class name c (kind.Signal s) h = h
kind_owned table class name c (kind.Panel p) h = h
kind_owned table class name c kind.Canvas h = absurd (false≢true h)
kind_owned table class name c _ h = h

top_owned : (table : Names) (class : Class) (name : ℕ) (top : Bool) (c : Cell) → is_owned class name (owned_by table top c) ≡ true → is_owned class name (owned_by table true c) ≡ true
top_owned table class name true c h = h
top_owned table class name false c h = kind_owned table class name c c.kind h

module _ (table : Names) (class : Class) (name : ℕ) (nodes : ℕ → Option Node) (boards : ℕ → Option Board) where
  owns_spot : Spot → Bool
  owns_spot p = is_owned class name (owned_at table nodes p)

  owns_stand : Stand → Bool
  owns_stand s = is_owned class name (owned_by table true s.cell)

  seen_owns : (top : Bool) (k : ℕ) (s : NodeSeen) (t : Stand) → t.cell ≡ s.cell → option_map node_seen (nodes k) ≡ Some s → owns_spot (spot top k) ≡ true → owns_stand t ≡ true
  unfolding owns_spot owns_stand
  seen_owns top k s t e h o =
      ap (λ (c : Cell). is_owned class name (owned_by table true c)) e
      ∙ top_owned table class name top s.cell
      (ap (λ (x : Option Cell). is_owned class name (option_and_then (λ c. owned_by table top c) x)) (sym (seen_cell (nodes k) s h)) ∙ o)

  both_counted : (xs ys : List Spot) (ss ts : List Stand) → length (filter owns_spot xs) ≤ length (filter owns_stand ss) → length (filter owns_spot ys) ≤ length (filter owns_stand ts)
      → length (filter owns_spot (xs ++ ys)) ≤ length (filter owns_stand (ss ++ ts))
  both_counted xs ys ss ts m n =
      let a = ap length (filter-append owns_spot xs ys) ∙ length-append (filter owns_spot xs) (filter owns_spot ys) in
      let b = ap length (filter-append owns_stand ss ts) ∙ length-append (filter owns_stand ss) (filter owns_stand ts) in
      omega (arith, m, n, a, b)

  counted : (b d : ℕ) (top : Bool) (ks : List ℕ) (t : Trees) → (S : Stands nodes boards b d ks t) → length (filter owns_spot (spots_standing nodes boards b d top ks t S)) ≤ length (filter owns_stand (stands_of t))
  counted b d top [] Done S = omega arith
  counted b d top (k ∷ ks) Done S = absurd S
  counted b d top [] (Leaf c rest) S = absurd S
  counted b d top (k ∷ ks) (Leaf c rest) S =
      more_kept (owns_spot (spot top k)) (owns_stand (stand c None 0)) (spot top k) (stand c None 0) (filter owns_spot (spots_standing nodes boards b d top ks rest S.1)) (filter owns_stand (stands_of rest))
      (seen_owns top k _ (stand c None 0) refl S.0) (counted b d top ks rest S.1)
  counted b d top [] (Holder c s inner rest) S = absurd S
  counted b d top (k ∷ ks) (Holder c s inner rest) S =
      let top' = top && is_sub c.head.form in
      let xs = spots_standing nodes boards S.0 (d + 1) top' S.1 inner S.4 in
      let ys = spots_standing nodes boards b d top ks rest S.5 in
      more_kept (owns_spot (spot top k)) (owns_stand (stand c (Some s) (width inner))) (spot top k) (stand c (Some s) (width inner)) (filter owns_spot (xs ++ ys)) (filter owns_stand (stands_of inner ++ stands_of rest))
      (seen_owns top k _ (stand c (Some s) (width inner)) refl S.2)
      (both_counted xs ys (stands_of inner) (stands_of rest) (counted S.0 (d + 1) top' S.1 inner S.4) (counted b d top ks rest S.5))

  mapped : (ps : List Spot) → length (keys_of_spots ps) ≡ length ps
  mapped [] = refl
  mapped (p ∷ ps) = ap suc (mapped ps)

  -- there is room for all of them, where there is for as many as were counted
  pub owner_room : (b d : ℕ) (top : Bool) (ks : List ℕ) (t : Trees) (S : Stands nodes boards b d ks t) (ss : List Stand) (spots : List Spot) (names : List Row) → ss ≡ stands_of t
      → spots ≡ spots_standing nodes boards b d top ks t S → (owning_among table class name ss ≢ 0 → HasRoom names (Some (class, name)) (owning_among table class name ss))
      → length (boxes_owning table nodes class name spots) ≢ 0 → HasRoom names (Some (class, name)) (length (boxes_owning table nodes class name spots))
  unfolding owns_spot owns_stand
  owner_room b d top ks t S ss spots names e told R some =
      let n = mapped (filter owns_spot spots) in
      let l = counted b d top ks t S in
      let x = ap (λ ps. length (filter owns_spot ps)) told in
      let y = ap (λ zs. length (filter owns_stand zs)) e in
      let H = R (λ z. some (omega (arith, n, l, x, y, z))) in
      (let r = H.0 in omega (arith, n, l, x, y, r), let r = H.1 in omega (arith, n, l, x, y, r))
