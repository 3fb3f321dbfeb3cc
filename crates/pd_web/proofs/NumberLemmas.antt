-- The lines at a box are wires of its canvas.
use Rattle.std.proofs.Common.{◌≡◌, ℕ, zero, suc, ◌<◌, ◌≤◌, Bool, true, false, ◌&&◌, ◌==◌, cond, List, [], ◌∷◌, ◌++◌, map, filter, length, slice_get, slice_index_or, Option, Some, None, refl, sym, ap, ◌∙◌, inl, inr, append-nil, eq-eqb, ne_eqb, true≢false, arith}
use Rattle.std.specs.Prelude.{option_map}
use Rattle.std.proofs.lemmas.Bool.{cases_eq, cases_lt}
use Rattle.std.proofs.lemmas.List.{map-append, get_or_past}
use Rattle.std.proofs.lemmas.List.Elements.{filter-append}
use Rattle.std.proofs.lemmas.Option.{none-some, same_Some, slice_get-map, get_or_from_slice_get}
use Rattle.slab.specs.Slab.{get}
use Rattle.pd_canvas.specs.declared.wires.Wire.{Wire}
use Rattle.pd_canvas.specs.Wiring.{fan_out}
use Rattle.pd_tree.specs.Ports.{fits, fits_between}
use Rattle.pd_tree.specs.Ports.{Sockets as Seen}
use Rattle.pd_grove.specs.declared.grove.Grove.{Grove}
use Rattle.pd_grove.specs.Telling.{keys_in}
use Rattle.pd_web.specs.Lines.{Line, line_of, lines_by, seen_at, wires_in, lines_at, lines_below, all_lines, fed_from, feeding}
use Rattle.pd_web.specs.Canvases.{keys_at, IsOwn, sink_place, source_place, fan_into, fed_in, feeding_in}

map-cond : {X Y : Type 0} (f : X → Y) (b : Bool) (x : X) (xs : List X) → map f (cond b (x ∷ xs) xs) ≡ cond b (f x ∷ map f xs) (map f xs)
map-cond f true x xs = refl
map-cond f false x xs = refl

-- a list of those that pass, first one way and then another
kept : {X Y : Type 0} (f : X → Y) (p : X → Bool) (b : Bool) (x : X) (xs : List X) → map f (filter p (cond b (x ∷ xs) xs)) ≡ cond (b && p x) (f x ∷ map f (filter p xs)) (map f (filter p xs))
kept f p true x xs = map-cond f (p x) x (filter p xs)
kept f p false x xs = refl

source_by : (f : ℕ → Seen) (w : Wire) (o : Option ℕ) (d : Option Seen) → fits_between (option_map f o) d w ≡ true → (x : ℕ) × (o ≡ Some x)
source_by f w None d h = absurd (true≢false (sym h))
source_by f w (Some x) d h = (x, refl)

sink_by : (f : ℕ → Seen) (w : Wire) (s : Option Seen) (o : Option ℕ) → fits_between s (option_map f o) w ≡ true → (x : ℕ) × (o ≡ Some x)
sink_by f w None None h = absurd (true≢false (sym h))
sink_by f w (Some s) None h = absurd (true≢false (sym h))
sink_by f w s (Some x) h = (x, refl)

-- a wire that fits comes from a box of the canvas and leads to one
source_there : (f : ℕ → Seen) (keys : List ℕ) (w : Wire) → fits (map f keys) w ≡ true → slice_get keys w.source ≡ Some (slice_index_or keys w.source 0)
source_there f keys w h =
    let s = source_by f w (slice_get keys w.source) (slice_get (map f keys) w.sink) (ap (λ o. fits_between o (slice_get (map f keys) w.sink) w) (sym (slice_get-map f keys w.source)) ∙ h) in
    s.1 ∙ ap (λ x. Some x) (sym (get_or_from_slice_get keys w.source s.0 0 s.1))

sink_there : (f : ℕ → Seen) (keys : List ℕ) (w : Wire) → fits (map f keys) w ≡ true → slice_get keys w.sink ≡ Some (slice_index_or keys w.sink 0)
sink_there f keys w h =
    let s = sink_by f w (slice_get (map f keys) w.source) (slice_get keys w.sink) (ap (λ o. fits_between (slice_get (map f keys) w.source) o w) (sym (slice_get-map f keys w.sink)) ∙ h) in
    s.1 ∙ ap (λ x. Some x) (sym (get_or_from_slice_get keys w.sink s.0 0 s.1))

-- where a key stands once, a box has it exactly where it has its number
same_box : (keys : List ℕ) (n i k x : ℕ) → ((i j k : ℕ) → slice_get keys i ≡ Some k → slice_get keys j ≡ Some k → i ≡ j) → slice_get keys i ≡ Some k → slice_get keys n ≡ Some x → (x == k) ≡ (n == i)
same_box keys n i k x once at here = elim (cases_eq x k) [
  | inl same ↦ eq-eqb x k same ∙ sym (eq-eqb n i (once n i k (here ∙ ap (λ y. Some y) same) at))
  | inr differ ↦ ne_eqb x k differ ∙ sym (ne_eqb n i (λ e. differ (same_Some x k (sym here ∙ ap (slice_get keys) e ∙ at))))
]

no_box : (keys : List ℕ) (n k x : ℕ) → ((j : ℕ) → slice_get keys j ≡ Some k → ⊥) → slice_get keys n ≡ Some x → (x == k) ≡ false
no_box keys n k x none here = ne_eqb x k (λ e. none n (here ∙ ap (λ y. Some y) e))

-- two tests that agree where a third passes
when_true : (b p q : Bool) → (b ≡ true → p ≡ q) → (b && p) ≡ (b && q)
when_true true p q h = h refl
when_true false p q h = refl

never : (b p : Bool) → (b ≡ true → p ≡ false) → (b && p) ≡ false
never true p h = h refl
never false p h = refl

conds : {Y : Type 0} (b c : Bool) (y : Y) (xs ys : List Y) → b ≡ c → xs ≡ ys → cond b (y ∷ xs) xs ≡ cond c (y ∷ ys) ys
conds b c y xs ys h e = ap (λ d. cond d (y ∷ xs) xs) h ∙ ap (λ zs. cond c (y ∷ zs) zs) e

-- the lines of a canvas, one wire after another
line_first : {Y : Type 0} (f : Line → Y) (p : Line → Bool) (boxes : List Seen) (keys : List ℕ) (w : Wire) (ws : List Wire)
    → map f (filter p (lines_by boxes keys (w ∷ ws))) ≡ cond (fits boxes w && p (line_of keys w)) (f (line_of keys w) ∷ map f (filter p (lines_by boxes keys ws))) (map f (filter p (lines_by boxes keys ws)))
line_first f p boxes keys w ws =
    ap (λ (ls : List Line). map f (filter p ls)) (map-cond (line_of keys) (fits boxes w) w (filter (fits boxes) ws)) ∙ kept f p (fits boxes w) (line_of keys w) (lines_by boxes keys ws)

fed_own : (f : ℕ → Seen) (keys : List ℕ) (ws : List Wire) (i o k : ℕ) → ((i j k : ℕ) → slice_get keys i ≡ Some k → slice_get keys j ≡ Some k → i ≡ j) → slice_get keys i ≡ Some k
    → fed_from k o (lines_by (map f keys) keys ws) ≡ map (sink_place keys) (fan_out i o (filter (fits (map f keys)) ws))
fed_own f keys [] i o k once at = refl
fed_own f keys (w ∷ ws) i o k once at =
    line_first (λ (l : Line). (l.sink, l.inlet)) (λ (l : Line). l.source == k && l.outlet == o) (map f keys) keys w ws
    ∙ conds _ _ _ _ _ (when_true (fits (map f keys) w) _ _ (λ h. ap (λ b. b && w.outlet == o) (same_box keys w.source i k (slice_index_or keys w.source 0) once at (source_there f keys w h))))
    (fed_own f keys ws i o k once at)
    ∙ sym (kept (sink_place keys) (λ (v : Wire). v.source == i && v.outlet == o) (fits (map f keys) w) w (filter (fits (map f keys)) ws))

fed_none : (f : ℕ → Seen) (keys : List ℕ) (ws : List Wire) (o k : ℕ) → ((j : ℕ) → slice_get keys j ≡ Some k → ⊥) → fed_from k o (lines_by (map f keys) keys ws) ≡ []
fed_none f keys [] o k none = refl
fed_none f keys (w ∷ ws) o k none =
    line_first (λ (l : Line). (l.sink, l.inlet)) (λ (l : Line). l.source == k && l.outlet == o) (map f keys) keys w ws
    ∙ conds _ false _ _ _ (never (fits (map f keys) w) _ (λ h. ap (λ b. b && w.outlet == o) (no_box keys w.source k (slice_index_or keys w.source 0) none (source_there f keys w h))))
    (fed_none f keys ws o k none)

feeding_own : (f : ℕ → Seen) (keys : List ℕ) (ws : List Wire) (i n k : ℕ) → ((i j k : ℕ) → slice_get keys i ≡ Some k → slice_get keys j ≡ Some k → i ≡ j) → slice_get keys i ≡ Some k
    → feeding k n (lines_by (map f keys) keys ws) ≡ map (source_place keys) (fan_into i n (filter (fits (map f keys)) ws))
feeding_own f keys [] i n k once at = refl
feeding_own f keys (w ∷ ws) i n k once at =
    line_first (λ (l : Line). (l.source, l.outlet)) (λ (l : Line). l.sink == k && l.inlet == n) (map f keys) keys w ws
    ∙ conds _ _ _ _ _ (when_true (fits (map f keys) w) _ _ (λ h. ap (λ b. b && w.inlet == n) (same_box keys w.sink i k (slice_index_or keys w.sink 0) once at (sink_there f keys w h))))
    (feeding_own f keys ws i n k once at)
    ∙ sym (kept (source_place keys) (λ (v : Wire). v.sink == i && v.inlet == n) (fits (map f keys) w) w (filter (fits (map f keys)) ws))

feeding_none : (f : ℕ → Seen) (keys : List ℕ) (ws : List Wire) (n k : ℕ) → ((j : ℕ) → slice_get keys j ≡ Some k → ⊥) → feeding k n (lines_by (map f keys) keys ws) ≡ []
feeding_none f keys [] n k none = refl
feeding_none f keys (w ∷ ws) n k none =
    line_first (λ (l : Line). (l.source, l.outlet)) (λ (l : Line). l.sink == k && l.inlet == n) (map f keys) keys w ws
    ∙ conds _ false _ _ _ (never (fits (map f keys) w) _ (λ h. ap (λ b. b && w.inlet == n) (no_box keys w.sink k (slice_index_or keys w.sink 0) none (sink_there f keys w h))))
    (feeding_none f keys ws n k none)

-- What holds of the lines of each canvas holds of all of them, where only one has any.
record OnlyAt (F : List Line → List (ℕ × ℕ)) (g : Grove) (c : ℕ) (own : List (ℕ × ℕ)) : Type 0 where
  nothing : F [] ≡ []
  more : (xs ys : List Line) → F (xs ++ ys) ≡ F xs ++ F ys
  here : F (lines_at g c) ≡ own
  others : (d : ℕ) → (d ≡ c → ⊥) → F (lines_at g d) ≡ []

below_low : (F : List Line → List (ℕ × ℕ)) (g : Grove) (c : ℕ) (own : List (ℕ × ℕ)) → OnlyAt F g c own → (n : ℕ) → n ≤ c → F (lines_below g n) ≡ []
below_low F g c own only zero h = only.nothing
below_low F g c own only (suc n) h =
    only.more (lines_below g n) (lines_at g n) ∙ ap (λ xs. xs ++ F (lines_at g n)) (below_low F g c own only n (omega arith)) ∙ only.others n (λ (e : n ≡ c). omega arith)

below_high : (F : List Line → List (ℕ × ℕ)) (g : Grove) (c : ℕ) (own : List (ℕ × ℕ)) → OnlyAt F g c own → (n : ℕ) → c < n → F (lines_below g n) ≡ own
below_high F g c own only zero h = absurd (omega arith)
below_high F g c own only (suc n) h = elim (cases_lt c n) [
  | inl l ↦
      only.more (lines_below g n) (lines_at g n) ∙ ap (λ xs. xs ++ F (lines_at g n)) (below_high F g c own only n l)
      ∙ ap (λ xs. own ++ xs) (only.others n (λ (e : n ≡ c). omega arith)) ∙ append-nil own
  | inr l ↦
      let e : n ≡ c = omega arith in
      only.more (lines_below g n) (lines_at g n) ∙ ap (λ xs. xs ++ F (lines_at g n)) (below_low F g c own only n (omega arith))
      ∙ ap (λ d. F (lines_at g d)) e ∙ only.here
]

-- a canvas that has a box is there
canvas_there : (g : Grove) (c i k : ℕ) → slice_get (keys_at g c) i ≡ Some k → c < length g.boards.slots
canvas_there g c i k h = elim (cases_lt c (length g.boards.slots)) [
  | inl l ↦ l
  | inr l ↦ absurd (none-some k (sym (ap (λ o. slice_get (keys_in o) i) (get_or_past g.boards.slots c None l)) ∙ h))
]

pub fed_by_number : (g : Grove) (c i o k : ℕ) → IsOwn g c → slice_get (keys_at g c) i ≡ Some k → fed_from k o (all_lines g) ≡ fed_in g c i o
fed_by_number g c i o k own at =
    below_high (fed_from k o) g c (fed_in g c i o)
    (record {
      nothing = refl;
      more = λ xs ys. ap (map (λ (l : Line). (l.sink, l.inlet))) (filter-append (λ (l : Line). l.source == k && l.outlet == o) xs ys) ∙ map-append (λ (l : Line). (l.sink, l.inlet)) _ _;
      here = fed_own (seen_at g) (keys_at g c) (wires_in (get g.boards c)) i o k own.once at;
      others = λ d differ. fed_none (seen_at g) (keys_at g d) (wires_in (get g.boards d)) o k (λ j h. differ (own.alone d i j k at h));
    })
    (length g.boards.slots) (canvas_there g c i k at)

pub feeding_by_number : (g : Grove) (c i n k : ℕ) → IsOwn g c → slice_get (keys_at g c) i ≡ Some k → feeding k n (all_lines g) ≡ feeding_in g c i n
feeding_by_number g c i n k own at =
    below_high (feeding k n) g c (feeding_in g c i n)
    (record {
      nothing = refl;
      more = λ xs ys. ap (map (λ (l : Line). (l.source, l.outlet))) (filter-append (λ (l : Line). l.sink == k && l.inlet == n) xs ys) ∙ map-append (λ (l : Line). (l.source, l.outlet)) _ _;
      here = feeding_own (seen_at g) (keys_at g c) (wires_in (get g.boards c)) i n k own.once at;
      others = λ d differ. feeding_none (seen_at g) (keys_at g d) (wires_in (get g.boards d)) n k (λ j h. differ (own.alone d i j k at h));
    })
    (length g.boards.slots) (canvas_there g c i k at)
