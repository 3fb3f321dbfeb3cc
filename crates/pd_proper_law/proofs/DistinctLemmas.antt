-- Lists in which nothing stands twice, and the wires that leave distinct boxes: there are no more than the web has.
use Rattle.std.proofs.Common.{◌≡◌, ◌≢◌, ◌≤◌, ◌+◌, ℕ, zero, suc, Bool, true, false, is_some, List, [], ◌∷◌, ◌++◌, length, map, slice_get, slice_index_or, Option, Some, None, IfSome, refl, sym, ap, ◌∙◌, subst, arith, length-append}
use Rattle.std.specs.Prelude.{option_map}
use Rattle.std.specs.List.{AllByRecursion, flat_map, range_with_len}
use Rattle.std.proofs.lemmas.List.{length-map}
use Rattle.std.proofs.lemmas.Option.{none-some, same_Some, slice_get-map}
use Rattle.pd_canvas.specs.declared.wires.Wire.{Wire}
use Rattle.pd_grove.specs.declared.ports.Side.TheVariants.{Outlets}
use Rattle.pd_web.specs.declared.lines.Line.{Line}
use Rattle.pd_web.specs.declared.sockets.Spot.{Spot}
use Rattle.pd_web.specs.declared.web.Hop.{Hop}
use Rattle.pd_web.specs.declared.web.Web.{Web}
use Rattle.pd_web.specs.Changes.{hop_at, line_by, line_told, wires_told}
use Rattle.pd_web.specs.Hops.{hop_by, hop_to, fan_keys, fan_hops, ports_told}
use Rattle.pd_web.specs.Wiring.{sink_at}
use Rattle.pd_web.proofs.CountLemmas.{held, holds, held_one_more}
use Rattle.pd_present.specs.Presents.{wire_along, outlet_wires, box_wires, wires_among}
use Rattle.pd_reload_law.specs.Wires.{StandOnce}
use Rattle.pd_guards.proofs.FactLemmas.{all-append, all-at, all-from, all-weaker}

abbrev pub Dist : List ℕ → Type 0
Dist [] = Unit {0}
Dist (x ∷ xs) = AllByRecursion (λ y. y ≢ x) xs × Dist xs

suc_same : (i j : ℕ) → suc i ≡ suc j → i ≡ j
suc_same i j e = omega (arith, e)

no_suc : (i : ℕ) → 0 ≡ suc i → ⊥
no_suc i e = omega (arith, e)

other_at : (x : ℕ) (xs : List ℕ) → ((i j k : ℕ) → slice_get (x ∷ xs) i ≡ Some k → slice_get (x ∷ xs) j ≡ Some k → i ≡ j) → (i : ℕ) (o : Option ℕ) → slice_get xs i ≡ o → IfSome o (λ y. y ≢ x)
other_at x xs h i None at = tt
other_at x xs h i (Some y) at = λ e. no_suc i (h 0 (suc i) x refl (at ∙ ap (λ (z : ℕ). Some z) e))

pub dist_from : (xs : List ℕ) → ((i j k : ℕ) → slice_get xs i ≡ Some k → slice_get xs j ≡ Some k → i ≡ j) → Dist xs
dist_from [] h = tt
dist_from (x ∷ xs) h =
    (all-from (λ y. y ≢ x) xs (λ i. other_at x xs h i (slice_get xs i) refl), dist_from xs (λ i j k a b. suc_same i j (h (suc i) (suc j) k a b)))

-- ---- lists of which each has a mark of its own

module _ (mark : ℕ → Option ℕ) where
  abbrev pub Marked : ℕ → List ℕ → Type 0
  Marked k xs = AllByRecursion (λ x. mark x ≡ Some k) xs

  apart : (k j x y : ℕ) → mark x ≡ Some k → mark y ≡ Some j → j ≢ k → y ≢ x
  apart k j x y a b n e = n (same_Some j k (sym b ∙ ap mark e ∙ a))

  others : (f : ℕ → List ℕ) (k : ℕ) (js : List ℕ) → ((j : ℕ) → Marked j (f j)) → AllByRecursion (λ j. j ≢ k) js → (x : ℕ) → mark x ≡ Some k → AllByRecursion (λ y. y ≢ x) (flat_map f js)
  others f k [] t n x e = tt
  others f k (j ∷ js) t n x e =
      all-append (λ y. y ≢ x) (f j) (flat_map f js) (all-weaker (λ y. mark y ≡ Some j) (λ y. y ≢ x) (λ y a. apart k j x y e a n.0) (f j) (t j)) (others f k js t n.1 x e)

  joined : (f : ℕ → List ℕ) (k : ℕ) (js : List ℕ) → ((j : ℕ) → Marked j (f j)) → AllByRecursion (λ j. j ≢ k) js → (xs : List ℕ) → Dist xs → Marked k xs → Dist (flat_map f js)
      → Dist (xs ++ flat_map f js)
  joined f k js t n [] d m r = r
  joined f k js t n (x ∷ xs) d m r = (all-append (λ y. y ≢ x) xs (flat_map f js) d.0 (others f k js t n x m.0), joined f k js t n xs d.1 m.1 r)

  pub dist_flat : (f : ℕ → List ℕ) (ks : List ℕ) → Dist ks → ((k : ℕ) → Dist (f k)) → ((k : ℕ) → Marked k (f k)) → Dist (flat_map f ks)
  dist_flat f [] d u t = tt
  dist_flat f (k ∷ ks) d u t = joined f k ks t d.0 (f k) (u k) (t k) (dist_flat f ks d.1 u t)

above : (a n : ℕ) → AllByRecursion (λ y. a ≤ y) (range_with_len a n)
above a zero = tt
above a (suc n) = (itself a, all-weaker (λ y. a + 1 ≤ y) (λ y. a ≤ y) (λ y l. less a y l) (range_with_len (a + 1) n) (above (a + 1) n))
  where
    itself : (a : ℕ) → a ≤ a
    itself a = omega arith

    less : (a y : ℕ) → a + 1 ≤ y → a ≤ y
    less a y l = omega (arith, l)

dist_range : (a n : ℕ) → Dist (range_with_len a n)
dist_range a zero = tt
dist_range a (suc n) = (all-weaker (λ y. a + 1 ≤ y) (λ y. y ≢ a) (λ y l. later a y l) (range_with_len (a + 1) n) (above (a + 1) n), dist_range (a + 1) n)
  where
    later : (a y : ℕ) → a + 1 ≤ y → y ≢ a
    later a y l e = omega (arith, l, e)

-- ---- places that hold something

one_more : (a b c : ℕ) → a ≡ b + 1 → c ≤ b → suc c ≤ a
one_more a b c e l = omega (arith, e, l)

module _ {X : Type 0} where
  cleared : List (Option X) → ℕ → List (Option X)
  cleared [] k = []
  cleared (w ∷ ws) zero = None ∷ ws
  cleared (w ∷ ws) (suc k) = w ∷ cleared ws k

  cleared_here : (ws : List (Option X)) (k : ℕ) → holds (cleared ws k) k ≡ false
  unfolding cleared
  cleared_here [] k = refl
  cleared_here (w ∷ ws) zero = refl
  cleared_here (w ∷ ws) (suc k) = cleared_here ws k

  cleared_other : (ws : List (Option X)) (k j : ℕ) → j ≢ k → holds (cleared ws k) j ≡ holds ws j
  unfolding cleared
  cleared_other [] k j n = refl
  cleared_other (w ∷ ws) zero zero n = absurd (n refl)
  cleared_other (w ∷ ws) zero (suc j) n = refl
  cleared_other (w ∷ ws) (suc k) zero n = refl
  cleared_other (w ∷ ws) (suc k) (suc j) n = cleared_other ws k j (λ e. n (ap suc e))

  still_there : (ws : List (Option X)) (k : ℕ) (ks : List ℕ) → AllByRecursion (λ j. j ≢ k) ks → AllByRecursion (λ j. holds ws j ≡ true) ks → AllByRecursion (λ j. holds (cleared ws k) j ≡ true) ks
  still_there ws k [] n h = tt
  still_there ws k (j ∷ ks) n h = (cleared_other ws k j n.0 ∙ h.0, still_there ws k ks n.1 h.1)

  -- distinct places that hold something are no more than all that do
  pub few_held : (ks : List ℕ) (ws : List (Option X)) → Dist ks → AllByRecursion (λ j. holds ws j ≡ true) ks → length ks ≤ held ws
  few_held [] ws d h = omega arith
  few_held (k ∷ ks) ws d h =
      one_more (held ws) (held (cleared ws k)) (length ks)
      (held_one_more (cleared ws k) ws k (cleared_here ws k) h.0 (λ j n. sym (cleared_other ws k j n)))
      (few_held ks (cleared ws k) d.1 (still_there ws k ks d.0 h.1))

-- ---- the wires that leave boxes

-- a wire that leaves this outlet of this box
record Leaves (w : Web) (k o x : ℕ) : Type 0 where
  line : Line
  told : line_told w x ≡ Some line
  source : line.source ≡ k
  outlet : line.outlet ≡ o

hop_key : (key : ℕ) (o : Option Spot) → (hop_by key o).key ≡ key
hop_key key None = refl
hop_key key (Some s) = refl

flat_all : {X : Type 0} (P : X → Type 0) (f : ℕ → List X) → ((x : ℕ) → AllByRecursion P (f x)) → (xs : List ℕ) → AllByRecursion P (flat_map f xs)
flat_all P f h [] = tt
flat_all P f h (x ∷ xs) = all-append P (f x) (flat_map f xs) (h x) (flat_all P f h xs)

some_holds : {X Y : Type 0} (f : X → Y) (o : Option X) (y : Y) → option_map f o ≡ Some y → is_some o ≡ true
some_holds f None y e = absurd (none-some y e)
some_holds f (Some x) y e = refl

module _ (w : Web) (once : StandOnce w) where
  leaves_at : (k o i : ℕ) (x : Option ℕ) → slice_get (fan_keys w k o) i ≡ x → IfSome x (Leaves w k o)
  leaves_at k o i None e = tt
  leaves_at k o i (Some x) e =
      let there : slice_get (fan_hops w k o) i ≡ Some (hop_to w x) = slice_get-map (hop_to w) (fan_keys w k o) i ∙ ap (option_map (hop_to w)) e in
      let h : Hop = hop_to w x in
      record {
        line = line_by (hop_at h.key k o) h;
        told = ap (line_told w) (sym (hop_key x (slice_get w.spots.items (sink_at w.book x)))) ∙ once.lines k o i h there;
        source = refl;
        outlet = refl;
      }

  fan_leaves : (k o : ℕ) → AllByRecursion (Leaves w k o) (fan_keys w k o)
  fan_leaves k o = all-from (Leaves w k o) (fan_keys w k o) (λ i. leaves_at k o i (slice_get (fan_keys w k o) i) refl)

  outlet_mark : ℕ → Option ℕ
  outlet_mark x = option_map (λ (l : Line). l.outlet) (line_told w x)

  source_mark : ℕ → Option ℕ
  source_mark x = option_map (λ (l : Line). l.source) (line_told w x)

  -- the keys of the wires that leave a box
  abbrev keys_from : ℕ → List ℕ
  keys_from k = flat_map (fan_keys w k) (range_with_len 0 (length (ports_told w Outlets k)))

  outlet_marked : (k o : ℕ) → Marked outlet_mark o (fan_keys w k o)
  unfolding outlet_mark
  outlet_marked k o =
      all-weaker (Leaves w k o) (λ x. outlet_mark x ≡ Some o) (λ x l. ap (option_map (λ (v : Line). v.outlet)) l.told ∙ ap (λ (n : ℕ). Some n) l.outlet) (fan_keys w k o) (fan_leaves k o)

  source_marked : (k : ℕ) → Marked source_mark k (keys_from k)
  unfolding source_mark
  source_marked k =
      flat_all (λ x. source_mark x ≡ Some k) (fan_keys w k) (λ o.
      all-weaker (Leaves w k o) (λ x. source_mark x ≡ Some k) (λ x l. ap (option_map (λ (v : Line). v.source)) l.told ∙ ap (λ (n : ℕ). Some n) l.source) (fan_keys w k o) (fan_leaves k o))
      (range_with_len 0 (length (ports_told w Outlets k)))

  dist_box : (k : ℕ) → Dist (keys_from k)
  dist_box k =
      dist_flat outlet_mark (fan_keys w k) (range_with_len 0 (length (ports_told w Outlets k))) (dist_range 0 (length (ports_told w Outlets k)))
      (λ o. dist_from (fan_keys w k o) (once.once k o)) (outlet_marked k)

  all_live : (ks : List ℕ) → AllByRecursion (λ x. holds w.book.wires x ≡ true) (flat_map keys_from ks)
  all_live ks =
      flat_all (λ x. holds w.book.wires x ≡ true) keys_from (λ k.
      flat_all (λ x. holds w.book.wires x ≡ true) (fan_keys w k) (λ o.
      all-weaker (Leaves w k o) (λ x. holds w.book.wires x ≡ true) (λ x l. some_holds _ (slice_index_or w.book.wires x None) l.line l.told) (fan_keys w k o) (fan_leaves k o))
      (range_with_len 0 (length (ports_told w Outlets k)))) ks

pub as_many : {X Y : Type 0} (f : ℕ → List X) (g : ℕ → List Y) → ((x : ℕ) → length (f x) ≡ length (g x)) → (xs : List ℕ) → length (flat_map f xs) ≡ length (flat_map g xs)
as_many f g h [] = refl
as_many f g h (x ∷ xs) =
    let a = length-append (f x) (flat_map f xs) in
    let b = length-append (g x) (flat_map g xs) in
    sum (length (f x)) (length (g x)) (length (flat_map f xs)) (length (flat_map g xs)) (length (f x ++ flat_map f xs)) (length (g x ++ flat_map g xs)) a b (h x) (as_many f g h xs)
  where
    sum : (a b c d x y : ℕ) → x ≡ a + c → y ≡ b + d → a ≡ b → c ≡ d → x ≡ y
    sum a b c d x y p q r s = omega (arith, p, q, r, s)

no_more : (a b c : ℕ) → a ≡ b → b ≤ c → a ≤ c
no_more a b c e l = omega (arith, e, l)

-- the wires that are saved of distinct boxes are no more than all wires
pub few_saved : (w : Web) (numbers ks : List ℕ) → StandOnce w → Dist ks → length (wires_among w numbers ks) ≤ wires_told w
few_saved w numbers ks once d =
    no_more (length (wires_among w numbers ks)) (length (flat_map (keys_from w once) ks)) (wires_told w)
    (as_many (box_wires w numbers) (keys_from w once) (λ k.
    as_many (outlet_wires w numbers k) (fan_keys w k) (λ o.
    length-map {B = Wire} (fan_hops w k o) (wire_along numbers k o) ∙ length-map {B = Hop} (fan_keys w k o) (hop_to w)) (range_with_len 0 (length (ports_told w Outlets k)))) ks)
    (few_held (flat_map (keys_from w once) ks) w.book.wires
    (dist_flat (source_mark w once) (keys_from w once) ks d (dist_box w once) (source_marked w once)) (all_live w once ks))
