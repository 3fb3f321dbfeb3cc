-- Which of what grew is one box that holds a canvas without boxes, and such a box that came in.
use Rattle.std.proofs.Common.{◌≡◌, ℕ, ◌+◌, ◌<◌, true, false, nat_lt, is_some, List, [], ◌∷◌, length, Option, Some, None, IsSome, inl, inr, refl, sym, ap, ◌∙◌, subst, arith}
use Rattle.std.proofs.lemmas.List.{length-map, length-append}
use Rattle.std.proofs.lemmas.Bool.{lt-ltb, ltb-true, true≢false}
use Rattle.std.proofs.lemmas.Option.{none-some, same_Some}
use mathlib.Core.Logic.{⊎_elim}
use Rattle.slab.specs.Slab.{get}
use Rattle.pd_atom.specs.Names.{Names}
use Rattle.pd_canvas.specs.Pages.{Sub}
use Rattle.pd_canvas.specs.Views.{shape_of}
use Rattle.pd_object.specs.declared.kinds.Kind.TheVariants as kind
use Rattle.pd_tree.specs.declared.rows.Row.{Row}
use Rattle.pd_tree.specs.declared.rows.Sheet.{Sheet}
use Rattle.pd_tree.specs.Trees.{Cell, Stand, Trees, Done, Leaf, Holder, width, stand_of, stands_of, stands_in}
use Rattle.pd_grove.specs.declared.seeds.Seed.{Seed}
use Rattle.pd_grove.specs.Standing.{depth_of}
use Rattle.pd_grove.specs.States.{IsFresh}
use Rattle.pd_patch.specs.declared.patch.Patch.{Patch}
use Rattle.pd_boxes.specs.declared.room.Place.{Place}
use Rattle.pd_boxes.specs.Put.{CanPut, IsLeaf}
use Rattle.pd_subpatches.specs.Shell.{IsShallow, IsShell, IsShellPut}
use Rattle.pd_adding.specs.declared.adding.Grown.{Grown}
use Rattle.pd_adding.specs.Growing.{Added}
use Rattle.pd_adding.specs.Adding.{IsAdded}
use Rattle.pd_adding.specs.Single.{IsSingle}
use Rattle.pd_putting.specs.Adds.{keys_within, place_at, IsSubAt, IsSubPutAt}
use Rattle.pd_putting.specs.Places.{IsAloneAt, PutsLeafAt, PutsSubAt, IsReady}
use Rattle.pd_putting.proofs.LeafLemmas.{rows_one, seed_leaf, seed_stand, seed_suits}
use Rattle.pd_putting.proofs.KeyLemmas.{leaf_at_alone, sub_at_alone}

abbrev holding : Cell → Sheet → Stand
holding cell sheet = record { cell = cell; sheet = Some sheet; boxes = 0 }

first : {X : Type 0} → X → List X → X
first d [] = d
first d (x ∷ xs) = x

-- no boxes in text order are no boxes
no_trees : (t : Trees) → length (stands_of t) ≡ 0 → t ≡ Done
no_trees Done e = refl
no_trees (Leaf c rest) e = absurd (omega (arith, e))
no_trees (Holder c s inner rest) e = absurd (omega (arith, e))

-- one row of a box that holds a canvas is that box, and the canvas has no boxes
pub holder_alone : (t : Trees) (r : Stand) (sheet : Sheet) → width t ≡ 1 → r ∷ [] ≡ stands_of t → r.sheet ≡ Some sheet → t ≡ Holder r.cell sheet Done Done
unfolding first
holder_alone Done r sheet one e has = absurd (omega (arith, one))
holder_alone (Leaf c rest) r sheet one e has = absurd (none-some sheet (sym (ap (λ (ss : List Stand). (first r ss).sheet) e) ∙ has))
holder_alone (Holder c s inner rest) r sheet one e has =
    let all = ap (λ (ss : List Stand). length ss) e in
    let parts = length-append (stands_of inner) (stands_of rest) in
    let none = no_trees inner (omega (arith, all, parts)) in
    let end = no_trees rest (omega (arith, all, parts)) in
    let cell : c ≡ r.cell = sym (ap (λ (ss : List Stand). (first r ss).cell) e) in
    let same : s ≡ sheet = same_Some s sheet (sym (ap (λ (ss : List Stand). (first r ss).sheet) e) ∙ has) in
    λ i. Holder (cell i) (same i) (none i) (end i)

sheet_some : (o : Option Sheet) → is_some o ≡ true → (s : Sheet) × (o ≡ Some s)
sheet_some None h = cc
sheet_some (Some s) h = (s, refl)

pub some_sheet : (o : Option Sheet) (s : Sheet) → o ≡ Some s → IsSome o
some_sheet o s e = subst (λ (x : Option Sheet). IsSome x) (sym e) refl

below : (d : ℕ) → nat_lt d 256 ≡ true → d + 1 < 257
below d h = (let l = ltb-true d 256 h in omega (arith, l))

pub above : (d : ℕ) → nat_lt d 256 ≡ false → d + 1 < 257 → ⊥
above d h l = (let m : d < 256 = omega (arith, l) in true≢false (sym (lt-ltb d 256 m) ∙ h))

module _ (p : Patch) (g : Grown) (number : ℕ) (a : Added) (A : IsAdded g a) where
  -- what a row of such a box tells
  row_sub : (row : Row) → g.rows.items ≡ row ∷ [] → (S : IsSubAt p number a) → stand_of row ≡ holding S.cell S.sheet
  unfolding first
  row_sub row r S = ap (first (stand_of row)) (sym (ap stands_in r) ∙ A.rows ∙ ap stands_of S.single)

  pub sub_is : (row : Row) → g.rows.items ≡ row ∷ [] → is_some row.sheet ≡ true → shape_of row.element.form ≡ Sub → row.kind ≡ kind.Canvas
      → nat_lt (depth_of (get p.grove.boards g.canvas)) 256 ≡ true → IsSubAt p number a
  sub_is row r some form canvas shallow =
      let has = sheet_some row.sheet some in
      record {
        cell = (stand_of row).cell;
        sheet = has.0;
        single = holder_alone a.boxes (stand_of row) has.0 A.one (sym (ap stands_in r) ∙ A.rows) has.1;
        form = form;
        canvas = canvas;
        shallow = subst (λ (c : ℕ). IsShallow p (place_at c number)) A.canvas (below (depth_of (get p.grove.boards g.canvas)) shallow);
      }

  pub sub_one : IsSubAt p number a → length g.rows.items ≡ 1
  sub_one S = sym (length-map g.rows.items stand_of) ∙ ap (λ (ss : List Stand). length ss) (A.rows ∙ ap stands_of S.single)

  pub sub_sheet : (row : Row) → g.rows.items ≡ row ∷ [] → IsSubAt p number a → is_some row.sheet ≡ true
  sub_sheet row r S = ap (λ (s : Stand). is_some s.sheet) (row_sub row r S)

  pub sub_form : (row : Row) → g.rows.items ≡ row ∷ [] → IsSubAt p number a → shape_of row.element.form ≡ Sub
  sub_form row r S = ap (λ (s : Stand). s.cell.head.form) (row_sub row r S) ∙ S.form

  pub sub_kind : (row : Row) → g.rows.items ≡ row ∷ [] → IsSubAt p number a → row.kind ≡ kind.Canvas
  sub_kind row r S = ap (λ (s : Stand). s.cell.kind) (row_sub row r S) ∙ S.canvas

  pub sub_shallow : IsSubAt p number a → depth_of (get p.grove.boards g.canvas) + 1 < 257
  sub_shallow S = subst (λ (c : ℕ). IsShallow p (place_at c number)) (sym A.canvas) S.shallow

  pub one_box : IsAloneAt p number a → length g.rows.items ≡ 1
  one_box C = ⊎_elim (λ (S : IsSingle a.boxes). rows_one g a A S) (λ (S : IsSubAt p number a). sub_one S) C

  module _ (seed : Seed) (is : stand_of seed.row ∷ [] ≡ stands_in g.rows.items) where
    pub sub_seed : (S : IsSubAt p number a) → stand_of seed.row ≡ holding S.cell S.sheet
    unfolding first
    sub_seed S = ap (first (stand_of seed.row)) (is ∙ A.rows ∙ ap stands_of S.single)

    pub seed_sheet : IsSubAt p number a → IsSome seed.row.sheet
    seed_sheet S = some_sheet seed.row.sheet S.sheet (ap (λ (s : Stand). s.sheet) (sub_seed S))

    pub seed_shell : (IsSome seed.row.sheet → seed.row.boxes ≡ 0 → seed.row.kind ≡ kind.Canvas → IsShell seed) → IsSubAt p number a → IsShell seed
    seed_shell shell S = shell (seed_sheet S) (ap (λ (s : Stand). s.boxes) (sub_seed S)) (ap (λ (s : Stand). s.cell.kind) (sub_seed S) ∙ S.canvas)

    pub seed_ready : (seed.row.sheet ≡ None → seed.row.boxes ≡ 0 → IsLeaf seed) → (IsSome seed.row.sheet → seed.row.boxes ≡ 0 → seed.row.kind ≡ kind.Canvas → IsShell seed)
        → IsAloneAt p number a → IsReady p (place_at g.canvas number) seed
    seed_ready leaf shell C = ⊎_elim
        (λ (S : IsSingle a.boxes). inl (seed_leaf g a A S seed is leaf))
        (λ (S : IsSubAt p number a). inr (seed_shell shell S, sub_shallow S)) C

    -- no box lies in it
    pub alone_keys : (q : Patch) (table : Names) (key : ℕ) → IsAloneAt p number a → (seed.row.sheet ≡ None → PutsLeafAt p q table (place_at g.canvas number) seed key)
        → (IsSome seed.row.sheet → PutsSubAt p q table (place_at g.canvas number) seed key) → keys_within q key ≡ key ∷ []
    alone_keys q table key C leaf sub = ⊎_elim
        (λ (S : IsSingle a.boxes). leaf_at_alone p q table (place_at g.canvas number) seed key (leaf (ap (λ (s : Stand). s.sheet) (seed_stand g a A S seed is))))
        (λ (S : IsSubAt p number a). sub_at_alone p q table (place_at g.canvas number) seed key (sub (seed_sheet S))) C

    -- what came in is the box that grew
    pub sub_put : (q : Patch) (now : ℕ) (table : Names) (key : ℕ) → (S : IsSubAt p number a) → a.known.names ≡ table → IsShell seed → IsFresh p.rate now seed → CanPut q
        → PutsSubAt p q table (place_at g.canvas number) seed key → IsSubPutAt p q number now a key
    sub_put q now table key S names shell fresh can L = record {
      sub = S;
      ready = L.ready;
      room = L.room;
      seed = seed;
      is_row = sub_seed S;
      suits = seed_suits g a A seed is;
      shell = shell;
      fresh = fresh;
      put = subst (λ (t : Names). IsShellPut L.ready q t (place_at a.canvas number) seed key) (sym names)
          (subst (λ (c : ℕ). IsShellPut L.ready q table (place_at c number) seed key) A.canvas L.put);
      goes_on = can;
    }

-- a seed that is ready, with a sheet or without

no_leaf : (s : Seed) → IsLeaf s → is_some s.row.sheet ≡ true → ⊥
no_leaf s L some = true≢false (sym some ∙ ap (λ (o : Option Sheet). is_some o) L.no_sheet)

no_shell : (o : Option Sheet) → IsSome o → is_some o ≡ false → ⊥
no_shell o some none = true≢false (sym some ∙ none)

pub ready_shell : (p : Patch) (place : Place) (s : Seed) → IsReady p place s → is_some s.row.sheet ≡ true → IsShell s × IsShallow p place
ready_shell p place s R some = ⊎_elim
    (λ (L : IsLeaf s). absurd (no_leaf s L some))
    (λ (S : IsShell s × IsShallow p place). S) R

pub ready_leaf : (p : Patch) (place : Place) (s : Seed) → IsReady p place s → is_some s.row.sheet ≡ false → IsLeaf s
ready_leaf p place s R none = ⊎_elim
    (λ (L : IsLeaf s). L)
    (λ (S : IsShell s × IsShallow p place). absurd (no_shell s.row.sheet S.0.sheet none)) R
