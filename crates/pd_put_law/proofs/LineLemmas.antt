-- A canvas that came with the wires of its sheet that fit, by the numbers of its boxes.
use Rattle.std.proofs.Common.{◌≡◌, ◌==◌, ◌&&◌, ℕ, suc, Bool, true, false, cond, List, [], ◌∷◌, map, filter, length, slice_get, Some, inl, inr, eq-eqb, ne_eqb, refl, sym, ap, ◌∙◌, subst}
use Rattle.std.specs.Prelude.{slice_index_or}
use Rattle.std.specs.List.{AllByRecursion, flat_map, range_with_len}
use Rattle.std.proofs.lemmas.Bool.{cases_eq}
use Rattle.std.proofs.lemmas.Option.{same_Some}
use Rattle.slab.specs.Slab.{get}
use Rattle.pd_canvas.specs.declared.wires.Wire.{Wire}
use Rattle.pd_canvas.specs.Wiring.{fan_out}
use Rattle.pd_tree.specs.Ports.{Sockets, fits}
use Rattle.pd_tree.specs.Trees.{Tree}
use Rattle.pd_grove.specs.declared.grove.Grove.{Grove}
use Rattle.pd_grove.specs.declared.ports.Side.TheVariants.{Outlets}
use Rattle.pd_grove.specs.Owning.{AreOwn}
use Rattle.pd_grove.specs.Places.{CanvasStands}
use Rattle.pd_web.specs.declared.lines.Line.{Line}
use Rattle.pd_web.specs.declared.web.Web.{Web}
use Rattle.pd_web.specs.Canvases.{keys_at, fitting, sink_place, source_place, fan_into, HoldersAreNoPorts}
use Rattle.pd_web.specs.Hops.{boxes_told, fan_hops, feed_hops, places_of, ports_told}
use Rattle.pd_web.specs.Lines.{laid_at, seen_at, boxes_in, wires_in, line_of, lines_at, fed_from, feeding}
use Rattle.pd_web.proofs.TreeFits.{boxes_are, trimmed_is}
use Rattle.pd_instances.proofs.WireLemmas.{both_there, key_there}
use Rattle.pd_present.specs.Presents.{outlet_wires, box_wires, wires_among}
use Rattle.pd_reload_law.specs.Wires.{AreNumbered}
use Rattle.pd_reload_law.proofs.LaidLemmas.{back, along_back, backs, passes, fitting_joins}
use Rattle.pd_reload_law.proofs.SortedLemmas.{all_on, all_append}
use Rattle.pd_inside_law.specs.Inside.{HasWiresOf}

-- ---- lists

-- what is kept of lines, where of the wires the same are kept
kept_lines : {Y : Type 0} (f : Line → Y) (p : Line → Bool) (r test : Wire → Bool) (keys : List ℕ) (ws : List Wire) → ((w : Wire) → test w ≡ true → p (line_of keys w) ≡ r w)
    → map f (filter p (map (line_of keys) (filter test ws))) ≡ map (λ w. f (line_of keys w)) (filter r (filter test ws))
kept_lines f p r test keys [] h = refl
kept_lines {Y} f p r test keys (w ∷ ws) h = by (kept_lines f p r test keys ws h) (test w) refl
  where
    Rest : Type 0
    Rest = map f (filter p (map (line_of keys) (filter test ws))) ≡ map (λ v. f (line_of keys v)) (filter r (filter test ws))

    both : Rest → (a b : Bool) → a ≡ b → map f (cond a (line_of keys w ∷ filter p (map (line_of keys) (filter test ws))) (filter p (map (line_of keys) (filter test ws))))
        ≡ map (λ v. f (line_of keys v)) (cond b (w ∷ filter r (filter test ws)) (filter r (filter test ws)))
    both rest true true e = ap (λ (l : List Y). f (line_of keys w) ∷ l) rest
    both rest false false e = rest
    both rest true false e = cc
    both rest false true e = cc

    by : Rest → (b : Bool) → test w ≡ b → map f (filter p (map (line_of keys) (cond b (w ∷ filter test ws) (filter test ws))))
        ≡ map (λ v. f (line_of keys v)) (filter r (cond b (w ∷ filter test ws) (filter test ws)))
    by rest true e = both rest (p (line_of keys w)) (r w) (h w e)
    by rest false e = rest

all_flat : {X : Type 0} (P : X → Type 0) (f : ℕ → List X) (xs : List ℕ) → ((i x : ℕ) → slice_get xs i ≡ Some x → AllByRecursion P (f x)) → AllByRecursion P (flat_map f xs)
all_flat P f [] h = tt
all_flat P f (x ∷ xs) h = all_append P (f x) (flat_map f xs) (h 0 x refl) (all_flat P f xs (λ i y e. h (suc i) y e))

all_left : {X : Type 0} (P : X → Type 0) (p : X → Bool) (xs : List X) → AllByRecursion P xs → AllByRecursion P (filter p xs)
all_left P p [] h = tt
all_left P p (x ∷ xs) h = by (p x) h.0 (all_left P p xs h.1)
  where
    by : (b : Bool) → P x → AllByRecursion P (filter p xs) → AllByRecursion P (cond b (x ∷ filter p xs) (filter p xs))
    by true k m = (k, m)
    by false k m = m

-- the boxes of keys have what is seen of them
told_seen : (g : Grove) (w : Web) (keys : List ℕ) → ((i k : ℕ) → slice_get keys i ≡ Some k → laid_at w.sockets.items k ≡ seen_at g k) → boxes_told w keys ≡ map (seen_at g) keys
told_seen g w [] h = refl
told_seen g w (k ∷ keys) h =
    ap (λ (x : Sockets). x ∷ boxes_told w keys) (h 0 k refl) ∙ ap (λ (l : List Sockets). seen_at g k ∷ l) (told_seen g w keys (λ i x e. h (suc i) x e))

-- ---- one canvas

module _ (g : Grove) (w : Web) (d : ℕ) (own : AreOwn (get g.nodes) (get g.boards)) (seen : (i k : ℕ) → slice_get (keys_at g d) i ≡ Some k → laid_at w.sockets.items k ≡ seen_at g k)
    (fans : (i k o : ℕ) → slice_get (keys_at g d) i ≡ Some k → places_of (fan_hops w k o) ≡ fed_from k o (lines_at g d))
    (feeds : (i k n : ℕ) → slice_get (keys_at g d) i ≡ Some k → places_of (feed_hops w k n) ≡ feeding k n (lines_at g d)) where
  abbrev keys : List ℕ
  keys = keys_at g d

  abbrev test : Wire → Bool
  test = fits (boxes_in g d)

  told : boxes_told w keys ≡ boxes_in g d
  told = told_seen g w keys seen

  -- a box of a wire that fits has a key exactly where it has its number
  same_box : (n i k : ℕ) → slice_get keys i ≡ Some k → slice_get keys n ≡ Some (slice_index_or keys n 0) → (slice_index_or keys n 0 == k) ≡ (n == i)
  same_box n i k at here = elim (cases_eq (slice_index_or keys n 0) k) [
    | inl same ↦ eq-eqb (slice_index_or keys n 0) k same ∙ sym (eq-eqb n i (own.once d n i k (here ∙ ap (λ y. Some y) same) at))
    | inr differ ↦ ne_eqb (slice_index_or keys n 0) k differ ∙ sym (ne_eqb n i (λ e. differ (same_Some (slice_index_or keys n 0) k (sym here ∙ ap (slice_get keys) e ∙ at))))
  ]

  source_there : (v : Wire) → test v ≡ true → slice_get keys v.source ≡ Some (slice_index_or keys v.source 0)
  source_there v t =
      let A = both_there (slice_get (boxes_in g d) v.source) (slice_get (boxes_in g d) v.sink) v t in key_there (seen_at g) keys v.source A.from A.source

  sink_there : (v : Wire) → test v ≡ true → slice_get keys v.sink ≡ Some (slice_index_or keys v.sink 0)
  sink_there v t =
      let A = both_there (slice_get (boxes_in g d) v.source) (slice_get (boxes_in g d) v.sink) v t in key_there (seen_at g) keys v.sink A.to A.sink

  fans_by : (i k o : ℕ) → slice_get keys i ≡ Some k → places_of (fan_hops w k o) ≡ map (sink_place keys) (fan_out i o (fitting g d))
  fans_by i k o at =
      fans i k o at
      ∙ kept_lines (λ (l : Line). (l.sink, l.inlet)) (λ (l : Line). l.source == k && l.outlet == o) (λ (v : Wire). v.source == i && v.outlet == o) test keys (wires_in (get g.boards d))
      (λ v t. ap (λ (b : Bool). b && v.outlet == o) (same_box v.source i k at (source_there v t)))

  feeds_by : (i k n : ℕ) → slice_get keys i ≡ Some k → places_of (feed_hops w k n) ≡ map (source_place keys) (fan_into i n (fitting g d))
  feeds_by i k n at =
      feeds i k n at
      ∙ kept_lines (λ (l : Line). (l.source, l.outlet)) (λ (l : Line). l.sink == k && l.inlet == n) (λ (v : Wire). v.sink == i && v.inlet == n) test keys (wires_in (get g.boards d))
      (λ v t. ap (λ (b : Bool). b && v.inlet == n) (same_box v.sink i k at (sink_there v t)))

  -- it has the wires of the canvas of the tree
  pub wires_laid : (u : Tree) → CanvasStands g d u → HoldersAreNoPorts u.boxes → HasWiresOf w keys u
  wires_laid u S H = record {
    ports = told ∙ boxes_are g d u S H;
    fans = λ i o k at. fans_by i k o at ∙ ap (λ (ws : List Wire). map (sink_place keys) (fan_out i o ws)) (trimmed_is g d u S H);
    feeds = λ i n k at. feeds_by i k n at ∙ ap (λ (ws : List Wire). map (source_place keys) (fan_into i n ws)) (trimmed_is g d u S H);
  }

  abbrev Fits : Wire → Type 0
  Fits v = fits (boxes_told w keys) v ≡ true

  -- each wire that is saved of it fits
  pub laid_fit : (numbers : List ℕ) → AreNumbered numbers keys → AllByRecursion Fits (wires_among w numbers keys)
  laid_fit numbers n =
      let ws : List Wire = filter (fits (boxes_told w keys)) (wires_in (get g.boards d)) in
      let all : AllByRecursion Fits ws = passes (fits (boxes_told w keys)) (wires_in (get g.boards d)) in
      all_flat Fits (box_wires w numbers) keys (λ i k at.
      all_flat Fits (outlet_wires w numbers k) (range_with_len 0 (length (ports_told w Outlets k))) (λ j o e.
      let told_so : places_of (fan_hops w k o) ≡ map (sink_place keys) (fan_out i o ws) =
      fans_by i k o at ∙ ap (λ (x : List Sockets). map (sink_place keys) (fan_out i o (filter (fits x) (wires_in (get g.boards d))))) (sym told) in
      let is : outlet_wires w numbers k o ≡ fan_out i o ws =
      along_back numbers k o (fan_hops w k o) ∙ ap (map (back numbers k o)) told_so
      ∙ backs numbers keys i k o ws n at (all_on Fits _ ws (fitting_joins w keys) all) in
      subst (AllByRecursion Fits) (sym is) (all_left Fits (λ (v : Wire). v.source == i && v.outlet == o) ws all)))
