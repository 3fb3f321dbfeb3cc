-- Which of what grew is one box without a canvas, and such a box that came in.
use Rattle.std.proofs.Common.{◌≡◌, ◌≢◌, ℕ, true, is_some, List, [], ◌∷◌, length, get_or, Option, Some, None, inl, inr, sym, ap, ◌∙◌, subst, arith}
use Rattle.std.specs.List.{AllByRecursion}
use Rattle.std.proofs.lemmas.List.{length-map}
use mathlib.Core.Logic.{⊎_elim}
use Rattle.pd_atom.specs.Names.{Names}
use Rattle.pd_object.specs.declared.kinds.Kind.{Kind}
use Rattle.pd_object.specs.Ports.{IsSmallKind}
use Rattle.pd_tree.specs.declared.rows.Row.{Row}
use Rattle.pd_tree.specs.declared.rows.Sheet.{Sheet}
use Rattle.pd_tree.specs.Trees.{Cell, Stand, Done, Leaf, stand_of, stands_of, stands_in}
use Rattle.pd_growth.specs.Suits.{TextSuits, RowSuits}
use Rattle.pd_grove.specs.declared.seeds.Seed.{Seed}
use Rattle.pd_grove.specs.States.{AreSmall, IsFresh}
use Rattle.pd_patch.specs.declared.patch.Patch.{Patch}
use Rattle.pd_boxes.specs.Put.{CanPut, IsLeaf, IsNoPort, IsPut}
use Rattle.pd_following.specs.Ports.{CanPutPort, IsPortAt, IsPortPut}
use Rattle.pd_adding.specs.declared.adding.Grown.{Grown}
use Rattle.pd_adding.specs.Growing.{Added}
use Rattle.pd_adding.specs.Adding.{IsAdded}
use Rattle.pd_adding.specs.Single.{IsSingle}
use Rattle.pd_putting.specs.Adds.{place_at, CanComeAt, HasComeAt, IsSubAt, IsBoxPutAt, IsPortBoxPutAt}
use Rattle.pd_putting.specs.Places.{IsAloneAt, IsPortIn, PutsAt, PutsLeafAt, PutsPortAt}
use Rattle.pd_putting.proofs.PlaceLemmas.{port_or_not}

-- the box of a cell that holds no canvas
abbrev alone : Cell → Stand
alone cell = record { cell = cell; sheet = None; boxes = 0 }

first : {X : Type 0} → X → List X → X
first d [] = d
first d (x ∷ xs) = x

-- a list of one element
pub one_row : {X : Type 0} (xs : List X) (x : X) → length xs ≡ 1 → x ≡ get_or xs 0 x → xs ≡ x ∷ []
one_row [] x l at = absurd (omega (arith, l))
one_row (y ∷ []) x l at = ap (λ z. z ∷ []) (sym at)
one_row (y ∷ z ∷ xs) x l at = absurd (omega (arith, l))

-- a list of another length is no box alone
pub not_alone : (rows : List Row) (cell : Cell) → length rows ≢ 1 → stands_in rows ≡ stands_of (Leaf cell Done) → ⊥
not_alone rows cell many e = many (sym (length-map rows stand_of) ∙ ap (λ (ss : List Stand). length ss) e)

-- a box alone holds no canvas
pub stand_alone : (rows : List Row) (row : Row) (cell : Cell) → rows ≡ row ∷ [] → stands_in rows ≡ stands_of (Leaf cell Done) → stand_of row ≡ alone cell
unfolding first
stand_alone rows row cell r e = ap (first (stand_of row)) (sym (ap stands_in r) ∙ e)

module _ (g : Grown) (a : Added) (A : IsAdded g a) where
  -- what the rows of such a box are
  rows_single : (S : IsSingle a.boxes) → stands_in g.rows.items ≡ stands_of (Leaf S.cell Done)
  rows_single S = A.rows ∙ ap stands_of S.is

  -- they are one row
  pub rows_one : IsSingle a.boxes → length g.rows.items ≡ 1
  rows_one S = sym (length-map g.rows.items stand_of) ∙ ap (λ (ss : List Stand). length ss) (rows_single S)

  pub many_not_single : length g.rows.items ≢ 1 → IsSingle a.boxes → ⊥
  many_not_single many S = not_alone g.rows.items S.cell many (rows_single S)

  pub held_not_single : (row : Row) → g.rows.items ≡ row ∷ [] → is_some row.sheet ≡ true → IsSingle a.boxes → ⊥
  held_not_single row r holds S =
      let none : row.sheet ≡ None = ap (λ (s : Stand). s.sheet) (stand_alone g.rows.items row S.cell r (rows_single S)) in
      no_sheet row.sheet none holds
    where
      no_sheet : (o : Option Sheet) → o ≡ None → is_some o ≡ true → ⊥
      no_sheet None n h = cc
      no_sheet (Some s) n h = cc

module _ (p : Patch) (number : ℕ) (a : Added) where
  -- one box without a canvas is a port of the box around, or is none
  pub single_comes : IsSingle a.boxes → CanComeAt p number a
  single_comes S = ⊎_elim
      (λ (free : IsNoPort p (place_at a.canvas number) S.cell.kind). inl (record { cell = S.cell; single = S.is; no_port = free }))
      (λ (port : IsPortIn p (place_at a.canvas number) S.cell.kind). inr (inr (inl (record { cell = S.cell; single = S.is; holder = port.0; side = port.1; at = port.2 }))))
      (port_or_not p (place_at a.canvas number) S.cell.kind)

  pub alone_comes : IsAloneAt p number a → CanComeAt p number a
  alone_comes A = ⊎_elim single_comes (λ (S : IsSubAt p number a). inr (inl S)) A

-- ---- seeds

pub rows_small : (names : Names) (rows : List Row) → AllByRecursion (RowSuits names) rows → AreSmall rows
rows_small names [] s = tt
rows_small names (r ∷ rows) s = (s.0.1, rows_small names rows s.1)

module _ (g : Grown) (a : Added) (A : IsAdded g a) (seed : Seed) (is : stand_of seed.row ∷ [] ≡ stands_in g.rows.items) where
  suits_by : (names : Names) (rows : List Row) → stand_of seed.row ∷ [] ≡ stands_in rows → AllByRecursion (RowSuits names) rows → RowSuits names seed.row
  unfolding first
  suits_by names [] e s = absurd (omega (arith, ap (λ (ss : List Stand). length ss) e))
  suits_by names (row ∷ rows) e s =
      let same : stand_of seed.row ≡ stand_of row = ap (first (stand_of seed.row)) e in
      subst (λ (x : Stand). TextSuits names x.cell.text × IsSmallKind x.cell.kind) (sym same) s.0

  pub seed_suits : RowSuits a.known.names seed.row
  seed_suits = suits_by a.known.names g.rows.items is A.suit

module _ (g : Grown) (a : Added) (A : IsAdded g a) (S : IsSingle a.boxes) (seed : Seed) (is : stand_of seed.row ∷ [] ≡ stands_in g.rows.items) where
  pub seed_stand : stand_of seed.row ≡ alone S.cell
  unfolding first
  seed_stand = ap (first (stand_of seed.row)) (is ∙ A.rows ∙ ap stands_of S.is)

  pub seed_leaf : (seed.row.sheet ≡ None → seed.row.boxes ≡ 0 → IsLeaf seed) → IsLeaf seed
  seed_leaf leaf = leaf (ap (λ (s : Stand). s.sheet) seed_stand) (ap (λ (s : Stand). s.boxes) seed_stand)

  kind_is : seed.row.kind ≡ S.cell.kind
  kind_is = ap (λ (s : Stand). s.cell.kind) seed_stand

  -- what came in is the box that grew
  module _ (p q : Patch) (number now : ℕ) (table : Names) (key : ℕ) (names : a.known.names ≡ table) (leaf : IsLeaf seed) (fresh : IsFresh p.rate now seed) (can : CanPut q) where
    box_put : IsNoPort p (place_at g.canvas number) seed.row.kind → PutsAt p q table (place_at g.canvas number) seed key → IsBoxPutAt p q number now a key
    box_put free L = record {
      plain = record {
        cell = S.cell;
        single = S.is;
        no_port = subst (λ (k : Kind). IsNoPort p (place_at a.canvas number) k) kind_is (subst (λ (c : ℕ). IsNoPort p (place_at c number) seed.row.kind) A.canvas free);
      };
      ready = L.ready;
      room = L.room;
      seed = seed;
      is_row = seed_stand;
      suits = seed_suits g a A seed is;
      leaf = leaf;
      fresh = fresh;
      put = subst (λ (t : Names). IsPut L.ready q t (place_at a.canvas number) seed key) (sym names)
          (subst (λ (c : ℕ). IsPut L.ready q table (place_at c number) seed key) A.canvas L.put);
      goes_on = can;
    }

    port_put : PutsPortAt p q table (place_at g.canvas number) seed key → IsPortBoxPutAt p q number now a key
    port_put L = record {
      port = record {
        cell = S.cell;
        single = S.is;
        holder = L.holder;
        side = L.side;
        at = subst (λ (k : Kind). IsPortAt p.grove (place_at a.canvas number) k L.holder L.side) kind_is
            (subst (λ (c : ℕ). IsPortAt p.grove (place_at c number) seed.row.kind L.holder L.side) A.canvas L.at);
      };
      ready = L.ready;
      room = L.room;
      seed = seed;
      is_row = seed_stand;
      suits = seed_suits g a A seed is;
      fresh = fresh;
      could = subst (λ (c : ℕ). CanPutPort L.ready (place_at c number) seed L.holder L.side) A.canvas L.could;
      put = subst (λ (t : Names). IsPortPut L.ready q t (place_at a.canvas number) seed key L.holder L.side) (sym names)
          (subst (λ (c : ℕ). IsPortPut L.ready q table (place_at c number) seed key L.holder L.side) A.canvas L.put);
      goes_on = can;
    }

    pub leaf_put : PutsLeafAt p q table (place_at g.canvas number) seed key → HasComeAt p q number now a key
    leaf_put L = ⊎_elim
        (λ (b : IsNoPort p (place_at g.canvas number) seed.row.kind × PutsAt p q table (place_at g.canvas number) seed key). inl (box_put b.0 b.1))
        (λ (o : PutsPortAt p q table (place_at g.canvas number) seed key). inr (inr (inl (port_put o)))) L
