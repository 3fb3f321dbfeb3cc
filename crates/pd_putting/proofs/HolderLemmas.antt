-- Which of what grew is one box that holds a canvas, with whatever lies in it, and such a box that came in.
use Rattle.std.proofs.Common.{◌≡◌, ◌+◌, ◌<◌, ℕ, List, [], ◌∷◌, length, None, inl, inr, refl, sym, ap, ◌∙◌, subst, arith}
use Rattle.std.specs.List.{AllByRecursion}
use Rattle.std.proofs.lemmas.Bool.{false≢true}
use Rattle.slab.specs.Slab.{get}
use Rattle.pd_atom.specs.Names.{Names}
use Rattle.pd_object.specs.declared.kinds.Kind.TheVariants as kind
use Rattle.pd_object.specs.Ports.{IsSmallKind}
use Rattle.pd_tree.specs.declared.rows.Row.{Row}
use Rattle.pd_tree.specs.declared.rows.Sheet.{Sheet}
use Rattle.pd_tree.specs.Trees.{Cell, Stand, Trees, Done, Leaf, Holder, width, stand_of, stands_of, stands_in}
use Rattle.pd_growth.specs.Suits.{TextSuits, RowSuits}
use Rattle.pd_grove.specs.declared.seeds.Seed.{Seed}
use Rattle.pd_grove.specs.declared.ports.Side.{Side}
use Rattle.pd_grove.specs.declared.ports.Side.TheVariants.{Inlets, Outlets}
use Rattle.pd_grove.specs.Planting.{one, seed_stand, seeds_in, stands_ready}
use Rattle.pd_grove.specs.Ports.{port_signal}
use Rattle.pd_grove.specs.Standing.{depth_of}
use Rattle.pd_grove.specs.States.{AreFresh}
use Rattle.pd_grove.specs.TextOrder.{deep}
use Rattle.pd_patch.specs.declared.patch.Patch.{Patch}
use Rattle.pd_boxes.specs.declared.room.Place.{Place}
use Rattle.pd_boxes.specs.Put.{IsNoPort}
use Rattle.pd_boxes.specs.Room.{SameButRoom}
use Rattle.pd_instances.specs.Part.{IsPartPut}
use Rattle.pd_instances.specs.declared.room.PartRoom.{PartRoom}
use Rattle.pd_instances.specs.Room.{stands_for, IsOnePart, TakesPart}
use Rattle.pd_adding.specs.declared.adding.Grown.{Grown}
use Rattle.pd_adding.specs.Growing.{Added}
use Rattle.pd_adding.specs.Adding.{IsAdded}
use Rattle.pd_adding.specs.Single.{IsSingle}
use Rattle.pd_putting.specs.Adds.{place_at, IsHolder, IsPartBoxPutAt}
use Rattle.pd_putting.specs.Places.{FitsIn, HasGrown, HoldsAsCanvas, HoldsCanvas, IsAloneAt, PutsPartAt}

-- ---- by the tree

-- boxes that are none
none_wide : (t : Trees) → width t ≡ 0 → t ≡ Done
none_wide Done e = refl
none_wide (Leaf c rest) e = absurd (omega (arith, e))
none_wide (Holder c s inner rest) e = absurd (omega (arith, e))

-- one box that holds a canvas
record Holds (t : Trees) : Type 0 where
  cell : Cell
  sheet : Sheet
  inner : Trees
  is : t ≡ Holder cell sheet inner Done
  canvas : cell.kind ≡ kind.Canvas

holds_by : (t : Trees) → width t ≡ 1 → HoldsCanvas (stands_of t) → Holds t
holds_by Done one h = absurd h
holds_by (Leaf c rest) one h = absurd (false≢true h.0)
holds_by (Holder c s inner rest) one h =
    record { cell = c; sheet = s; inner = inner; is = ap (Holder c s inner) (none_wide rest (omega (arith, one))); canvas = h.1 }

-- one box that is none without a canvas
one_holds : (t : Trees) → width t ≡ 1 → HoldsAsCanvas t → (IsSingle t → ⊥) → HoldsCanvas (stands_of t)
one_holds Done one h other = absurd (omega (arith, one))
one_holds (Leaf c rest) one h other = absurd (other (record { cell = c; is = ap (Leaf c) (none_wide rest (omega (arith, one))) }))
one_holds (Holder c s inner rest) one h other = (refl, h)

module _ (g : Grown) (a : Added) (A : IsAdded g a) where
  pub holder_is : (p : Patch) → HoldsCanvas (stands_in g.rows.items) → FitsIn p g → IsHolder p a
  holder_is p h fits =
      let H = holds_by a.boxes A.one (subst HoldsCanvas A.rows h) in
      record {
        cell = H.cell;
        sheet = H.sheet;
        inner = H.inner;
        single = H.is;
        canvas = H.canvas;
        shallow = subst (λ (c : ℕ). depth_of (get p.grove.boards c) + deep a.boxes < 257) A.canvas (fits a A);
      }

  -- what isn't alone holds a canvas
  pub others_hold : (p : Patch) (number : ℕ) → HoldsAsCanvas a.boxes → (IsAloneAt p number a → ⊥) → HoldsCanvas (stands_in g.rows.items)
  others_hold p number h other = subst HoldsCanvas (sym A.rows) (one_holds a.boxes A.one h (λ S. other (inl S)))

-- what grew is one box with all that lies in it, not too deep for its place
pub one_part : (p : Patch) (g : Grown) (number : ℕ) (names : Names) → HasGrown g names → FitsIn p g → IsOnePart p (place_at g.canvas number) (stands_in g.rows.items)
one_part p g number names h fits = record { tree = h.added.boxes; is_tree = h.is.rows; single = h.is.one; shallow = fits h.added h.is }

-- it is no port of a box around
pub holder_no_port : (p : Patch) (at : Place) (ss : List Stand) (s : Seed) (seeds : List Seed) → one (seed_stand s) (stands_ready seeds) ≡ ss → HoldsCanvas ss → IsNoPort p at s.row.kind
holder_no_port p at ss s seeds e h =
    let holds : HoldsCanvas (one (seed_stand s) (stands_ready seeds)) = subst HoldsCanvas (sym e) h in
    inr (λ side. ap (port_signal side) holds.1 ∙ no_port side)
  where
    no_port : (side : Side) → port_signal side kind.Canvas ≡ None
    no_port Inlets = refl
    no_port Outlets = refl

-- ---- seeds

-- each row of what grew suits the table, and so does each seed that was made of one
suit_all : (names : Names) (seeds : List Seed) (rows : List Row) → stands_ready seeds ≡ stands_in rows → AllByRecursion (RowSuits names) rows → AllByRecursion (λ (s : Seed). RowSuits names s.row) seeds
suit_all names [] rows e h = tt
suit_all names (s ∷ seeds) [] e h = absurd (omega (arith, ap (λ (ss : List Stand). length ss) e))
suit_all names (s ∷ seeds) (row ∷ rows) e h =
    let same : stand_of s.row ≡ stand_of row = ap (first (stand_of row)) e in
    (subst (λ (x : Stand). TextSuits names x.cell.text × IsSmallKind x.cell.kind) (sym same) h.0, suit_all names seeds rows (ap rest_of e) h.1)
  where
    first : Stand → List Stand → Stand
    first d [] = d
    first d (x ∷ xs) = x

    rest_of : List Stand → List Stand
    rest_of [] = []
    rest_of (x ∷ xs) = xs

-- the box of the room came in
pub puts_part : (p q r : Patch) (names table : Names) (at : Place) (now : ℕ) (ss : List Stand) (room : PartRoom) (taken : Names) (key steps steps' : ℕ) → SameButRoom p q
    → names ≡ table → room.place ≡ at → stands_for room ≡ ss → AreFresh p.rate now (room.seed ∷ seeds_in room.inside)
    → TakesPart q room taken → IsPartPut q r names room.place room.seed (seeds_in room.inside) key steps steps' → PutsPartAt p r table at now ss key steps steps'
puts_part p q r names table at now ss room taken key steps steps' same e there is fresh takes I = record {
  ready = q;
  room = same;
  seed = room.seed;
  seeds = seeds_in room.inside;
  are_rows = is;
  small = takes.small;
  fresh = fresh;
  put = subst (λ (t : Names). IsPartPut q r t at room.seed (seeds_in room.inside) key steps steps') e
      (subst (λ (x : Place). IsPartPut q r names x room.seed (seeds_in room.inside) key steps steps') there I);
}

module _ (g : Grown) (number : ℕ) (a : Added) (A : IsAdded g a) (p q : Patch) (now : ℕ) (table : Names) (key steps steps' : ℕ) (names : a.known.names ≡ table) where
  -- what came in is the box that grew
  pub part_put : IsHolder p a → PutsPartAt p q table (place_at g.canvas number) now (stands_in g.rows.items) key steps steps' → IsPartBoxPutAt p q number now a key
  part_put H L = record {
    holder = H;
    ready = L.ready;
    room = L.room;
    seed = L.seed;
    seeds = L.seeds;
    are_rows = L.are_rows ∙ A.rows;
    suit = suit_all a.known.names (L.seed ∷ L.seeds) g.rows.items L.are_rows A.suit;
    small = L.small;
    fresh = L.fresh;
    steps = steps;
    steps' = steps';
    put = subst (λ (t : Names). IsPartPut L.ready q t (place_at a.canvas number) L.seed L.seeds key steps steps') (sym names)
        (subst (λ (c : ℕ). IsPartPut L.ready q table (place_at c number) L.seed L.seeds key steps steps') A.canvas L.put);
    goes_on = L.put.can;
  }
