-- The wires of a canvas that are saved, where a box comes that has none.
use Rattle.std.proofs.Common.{◌≡◌, ◌≢◌, ℕ, ◌<◌, ◌≤◌, Bool, true, false, cond, ◌==◌, ◌&&◌, ◌||◌, List, [], ◌∷◌, ◌++◌, map, length, take, drop, slice_get, Some, None, refl, sym, ap, ◌∙◌, subst, arith}
use Rattle.std.specs.Prelude.{nat_lt}
use Rattle.std.specs.List.{AllByRecursion}
use Rattle.std.proofs.lemmas.Bool.Decides.{nat_tests}
use Rattle.std.proofs.lemmas.Option.{slice_get_past, slice_get_within}
use Rattle.slab.specs.Slab.{get}
use Rattle.pd_canvas.specs.declared.wires.Wire.{Wire}
use Rattle.pd_canvas.specs.Wiring.{precedes, AreSorted, fan_out, lowered, raised, raised_wire}
use Rattle.pd_grove.specs.declared.grove.Grove.{Grove}
use Rattle.pd_grove.specs.Grafts.{HasPartMore}
use Rattle.pd_grove.specs.Telling.{keys_in}
use Rattle.pd_web.specs.declared.web.Hop.{Hop}
use Rattle.pd_web.specs.declared.web.Web.{Web}
use Rattle.pd_web.specs.Canvases.{keys_at}
use Rattle.pd_web.specs.Hops.{fan_hops}
use Rattle.pd_present.specs.Presents.{number_in, wire_along, wires_among}
use Rattle.pd_reload_law.specs.Wires.{AreNumbered, IsAmong, StayAmong}
use Rattle.pd_reload_law.proofs.SortedLemmas.{by_test, from, sorted_same}
use Rattle.pd_reload_law.proofs.FanLemmas.{number_is, saved_sorted, saved_fan, saved_none}
use Rattle.pd_putting_law.specs.Putting.{KeepsWires}
use Rattle.pd_putting_law.proofs.ListLemmas.{by_option, map_same, map_onto, get_raised, get_new, insert_last, slice_get_out}
use Rattle.pd_putting_law.proofs.PathLemmas.{Forest, live_box}

-- ---- wires of higher numbers

same_order : (n a b c d : ℕ) → (nat_lt (raised n a) (raised n c) || (raised n a == raised n c && nat_lt b d)) ≡ (nat_lt a c || (a == c && nat_lt b d))
same_order n a b c d = grind (arith, nat_tests)

later_raised : (n : ℕ) (w : Wire) (vs : List Wire) → AllByRecursion (λ v. precedes v w ≡ false) vs
    → AllByRecursion (λ v. precedes v (raised_wire n w) ≡ false) (map (raised_wire n) vs)
later_raised n w [] h = tt
later_raised n w (v ∷ vs) h = (same_order n v.source v.outlet w.source w.outlet ∙ h.0, later_raised n w vs h.1)

pub sorted_raised : (n : ℕ) (ws : List Wire) → AreSorted ws → AreSorted (map (raised_wire n) ws)
sorted_raised n [] h = tt
sorted_raised n (w ∷ ws) h = (later_raised n w ws h.0, sorted_raised n ws h.1)

same_outlet : (n s o a b : ℕ) → (raised n a == raised n s && b == o) ≡ (a == s && b == o)
same_outlet n s o a b = grind (arith, nat_tests)

none_there : (n o a b : ℕ) → (raised n a == n && b == o) ≡ false
none_there n o a b = grind (arith, nat_tests)

raised_on : (n s : ℕ) → s ≢ n → raised n (lowered n s) ≡ s
raised_on n s apart = grind (arith, nat_tests)

fan_raised : (n s o : ℕ) (ws : List Wire) → fan_out (raised n s) o (map (raised_wire n) ws) ≡ map (raised_wire n) (fan_out s o ws)
fan_raised n s o [] = refl
fan_raised n s o (v ∷ vs) =
    ap (λ b. cond b (raised_wire n v ∷ fan_out (raised n s) o (map (raised_wire n) vs)) (fan_out (raised n s) o (map (raised_wire n) vs)))
    (same_outlet n s o v.source v.outlet)
    ∙ by (from s o v) (fan_raised n s o vs)
  where
    by : (b : Bool) → fan_out (raised n s) o (map (raised_wire n) vs) ≡ map (raised_wire n) (fan_out s o vs)
        → cond b (raised_wire n v ∷ fan_out (raised n s) o (map (raised_wire n) vs)) (fan_out (raised n s) o (map (raised_wire n) vs))
        ≡ map (raised_wire n) (cond b (v ∷ fan_out s o vs) (fan_out s o vs))
    by true k = ap (λ (l : List Wire). raised_wire n v ∷ l) k
    by false k = k

-- from the number that is left out comes none
fan_left : (n o : ℕ) (ws : List Wire) → fan_out n o (map (raised_wire n) ws) ≡ []
fan_left n o [] = refl
fan_left n o (v ∷ vs) =
    ap (λ b. cond b (raised_wire n v ∷ fan_out n o (map (raised_wire n) vs)) (fan_out n o (map (raised_wire n) vs))) (none_there n o v.source v.outlet)
    ∙ fan_left n o vs

-- ---- two webs

-- the boxes have the numbers and the wires that they had
wires_kept : (w w' : Web) (numbers numbers' keys : List ℕ) → AreNumbered numbers keys → AreNumbered numbers' keys → StayAmong w keys
    → ((k o : ℕ) → IsAmong keys k → fan_hops w' k o ≡ fan_hops w k o) → wires_among w' numbers' keys ≡ wires_among w numbers keys
wires_kept w w' numbers numbers' keys h h' stay same =
    sorted_same (wires_among w' numbers' keys) (wires_among w numbers keys) (saved_sorted w' numbers' keys h') (saved_sorted w numbers keys h) (λ s o.
    by_option (slice_get keys s)
    (λ none. saved_none w' numbers' keys s o h' none ∙ sym (saved_none w numbers keys s o h none))
    (λ k is. saved_fan w' numbers' keys s k o h' is ∙ ap (map (wire_along numbers' k o)) (same k o (s, is))
    ∙ map_same (wire_along numbers k o) (wire_along numbers' k o) (fan_hops w k o) (λ i x e. along k o x (s, is) (stay k o i x (s, is) e))
    ∙ sym (saved_fan w numbers keys s k o h is)))
  where
    number : (k : ℕ) → IsAmong keys k → number_in numbers' k ≡ number_in numbers k
    number k a = number_is numbers' k a.0 (h' a.0 k a.1) ∙ sym (number_is numbers k a.0 (h a.0 k a.1))

    along : (k o : ℕ) (x : Hop) → IsAmong keys k → IsAmong keys x.node → wire_along numbers' k o x ≡ wire_along numbers k o x
    along k o x a b =
        ap (λ s. record { source = s; outlet = o; sink = number_in numbers' x.node; inlet = x.port }) (number k a)
        ∙ ap (λ s. record { source = number_in numbers k; outlet = o; sink = s; inlet = x.port }) (number x.node b)

-- a box without wires came at_up this number_up, and the others have the wires that they had
module _ (w w' : Web) (numbers numbers' keys : List ℕ) (n key : ℕ) (within : n ≤ length keys) (h : AreNumbered numbers keys)
    (h' : AreNumbered numbers' (take n keys ++ key ∷ drop n keys)) (stay : StayAmong w keys) (same : (k o : ℕ) → IsAmong keys k → fan_hops w' k o ≡ fan_hops w k o)
    (bare : (o : ℕ) → fan_hops w' key o ≡ []) where
  abbrev more : List ℕ
  more = take n keys ++ key ∷ drop n keys

  abbrev were : List Wire
  were = wires_among w numbers keys

  is_new : (s : ℕ) → (s == n) ≡ true → s ≡ n
  is_new s t = grind (arith, nat_tests)

  is_old : (s : ℕ) → (s == n) ≡ false → s ≢ n
  is_old s t e = grind (arith, nat_tests)

  at_up : (s : ℕ) → slice_get more (raised n s) ≡ slice_get keys s
  at_up s = get_raised keys n key s within

  number_up : (k : ℕ) → IsAmong keys k → number_in numbers' k ≡ raised n (number_in numbers k)
  number_up k a = number_is numbers' k (raised n a.0) (h' (raised n a.0) k (at_up a.0 ∙ a.1)) ∙ ap (raised n) (sym (number_is numbers k a.0 (h a.0 k a.1)))

  along_up : (k o : ℕ) (x : Hop) → IsAmong keys k → IsAmong keys x.node → wire_along numbers' k o x ≡ raised_wire n (wire_along numbers k o x)
  along_up k o x a b =
      ap (λ s. record { source = s; outlet = o; sink = number_in numbers' x.node; inlet = x.port }) (number_up k a)
      ∙ ap (λ s. record { source = raised n (number_in numbers k); outlet = o; sink = s; inlet = x.port }) (number_up x.node b)

  from_new : (o : ℕ) → fan_out n o (wires_among w' numbers' more) ≡ fan_out n o (map (raised_wire n) were)
  from_new o = saved_fan w' numbers' more n key o h' (get_new keys n key within) ∙ ap (map (wire_along numbers' key o)) (bare o) ∙ sym (fan_left n o were)

  from_old : (s o : ℕ) → fan_out (raised n s) o (wires_among w' numbers' more) ≡ fan_out (raised n s) o (map (raised_wire n) were)
  from_old s o =
      by_option (slice_get keys s)
      (λ none. saved_none w' numbers' more (raised n s) o h' (at_up s ∙ none) ∙ sym (fan_raised n s o were ∙ ap (map (raised_wire n)) (saved_none w numbers keys s o h none)))
      (λ k is. saved_fan w' numbers' more (raised n s) k o h' (at_up s ∙ is) ∙ ap (map (wire_along numbers' k o)) (same k o (s, is))
      ∙ map_onto (wire_along numbers k o) (wire_along numbers' k o) (raised_wire n) (fan_hops w k o) (λ i x e. along_up k o x (s, is) (stay k o i x (s, is) e))
      ∙ sym (fan_raised n s o were ∙ ap (map (raised_wire n)) (saved_fan w numbers keys s k o h is)))

  wires_more : wires_among w' numbers' more ≡ map (raised_wire n) were
  wires_more =
      sorted_same (wires_among w' numbers' more) (map (raised_wire n) were) (saved_sorted w' numbers' more h') (sorted_raised n were (saved_sorted w numbers keys h)) (λ s o.
      by_test (s == n)
      (λ t. subst (λ x. fan_out x o (wires_among w' numbers' more) ≡ fan_out x o (map (raised_wire n) were)) (sym (is_new s t)) (from_new o))
      (λ t. subst (λ x. fan_out x o (wires_among w' numbers' more) ≡ fan_out x o (map (raised_wire n) were)) (raised_on n s (is_old s t)) (from_old (lowered n s) o)))

-- of each canvas that was there, in which no box came
pub wires_aside : (g h : Grove) (w w' : Web) (numbers numbers' : List ℕ) (key c : ℕ) → Forest g → KeepsWires g h w w' numbers numbers' key
    → get h.boards c ≡ get g.boards c → wires_among w' numbers' (keys_at g c) ≡ wires_among w numbers (keys_at g c)
wires_aside g h w w' numbers numbers' key c F W same =
    let keys : keys_at h c ≡ keys_at g c = ap keys_in same in
    wires_kept w w' numbers numbers' (keys_at g c) (W.numbered c) (subst (AreNumbered numbers') keys (W.renumbered c)) (W.inside c)
    (λ k o a. W.fans k o (live_box g F c a.0 k a.1))

-- of the canvas in which one came
pub wires_with : (g h : Grove) (w w' : Web) (numbers numbers' : List ℕ) (canvas key n : ℕ) → Forest g → KeepsWires g h w w' numbers numbers' key
    → n ≤ length (keys_at g canvas) → keys_at h canvas ≡ take n (keys_at g canvas) ++ key ∷ drop n (keys_at g canvas)
    → wires_among w' numbers' (keys_at h canvas) ≡ map (raised_wire n) (wires_among w numbers (keys_at g canvas))
wires_with g h w w' numbers numbers' canvas key n F W within has =
    ap (wires_among w' numbers') has
    ∙ wires_more w w' numbers numbers' (keys_at g canvas) n key within (W.numbered canvas) (subst (AreNumbered numbers') has (W.renumbered canvas)) (W.inside canvas)
    (λ k o a. W.fans k o (live_box g F canvas a.0 k a.1)) W.bare

-- the wires of a canvas lie between its boxes, and no number_low is as high as the next one
module _ (w : Web) (numbers keys : List ℕ) (h : AreNumbered numbers keys) (stay : StayAmong w keys) where
  abbrev count : ℕ
  count = length keys

  abbrev ws : List Wire
  ws = wires_among w numbers keys

  same_low : (s : ℕ) → s < count → raised count s ≡ s
  same_low s l = grind (arith, nat_tests)

  high : (s : ℕ) → count ≤ s → s ≢ count → count ≤ lowered count s
  high s l apart = grind (arith, nat_tests)

  number_low : (k : ℕ) → IsAmong keys k → raised count (number_in numbers k) ≡ number_in numbers k
  number_low k a = subst (λ i. raised count i ≡ i) (sym (number_is numbers k a.0 (h a.0 k a.1))) (same_low a.0 (slice_get_within keys a.0 k a.1))

  along_low : (k o : ℕ) (x : Hop) → IsAmong keys k → IsAmong keys x.node → wire_along numbers k o x ≡ raised_wire count (wire_along numbers k o x)
  along_low k o x a b =
      ap (λ s. record { source = s; outlet = o; sink = number_in numbers x.node; inlet = x.port }) (sym (number_low k a))
      ∙ ap (λ s. record { source = raised count (number_in numbers k); outlet = o; sink = s; inlet = x.port }) (sym (number_low x.node b))

  below : (s o k : ℕ) → slice_get keys s ≡ Some k → fan_out s o (map (raised_wire count) ws) ≡ fan_out s o ws
  below s o k is =
      let fan = saved_fan w numbers keys s k o h is in
      subst (λ i. fan_out i o (map (raised_wire count) ws) ≡ map (raised_wire count) (fan_out s o ws)) (same_low s (slice_get_within keys s k is)) (fan_raised count s o ws)
      ∙ ap (map (raised_wire count)) fan
      ∙ sym (map_onto (wire_along numbers k o) (wire_along numbers k o) (raised_wire count) (fan_hops w k o) (λ i x e. along_low k o x (s, is) (stay k o i x (s, is) e)))
      ∙ sym fan

  beyond : (s o : ℕ) → count ≤ s → fan_out s o (map (raised_wire count) ws) ≡ []
  beyond s o l =
      by_test (s == count)
      (λ t. let e : s ≡ count = grind (arith, nat_tests) in subst (λ i. fan_out i o (map (raised_wire count) ws) ≡ []) (sym e) (fan_left count o ws))
      (λ t. let apart : s ≢ count = λ e. grind (arith, nat_tests) in
      subst (λ i. fan_out i o (map (raised_wire count) ws) ≡ []) (raised_on count s apart)
      (fan_raised count (lowered count s) o ws
      ∙ ap (map (raised_wire count)) (saved_none w numbers keys (lowered count s) o h (slice_get_past keys (lowered count s) (high s l apart)))))

  past : (s o : ℕ) → slice_get keys s ≡ None → fan_out s o (map (raised_wire count) ws) ≡ fan_out s o ws
  past s o none = beyond s o (slice_get_out keys s none) ∙ sym (saved_none w numbers keys s o h none)

  pub wires_below : map (raised_wire count) ws ≡ ws
  wires_below =
      sorted_same (map (raised_wire count) ws) ws (sorted_raised count ws (saved_sorted w numbers keys h)) (saved_sorted w numbers keys h) (λ s o.
      by_option (slice_get keys s) (past s o) (below s o))

-- of the canvas in which one came behind the others
pub wires_here : (g h : Grove) (w w' : Web) (numbers numbers' : List ℕ) (canvas key : ℕ) → Forest g → KeepsWires g h w w' numbers numbers' key
    → HasPartMore (get g.nodes) (get h.nodes) (get g.boards) (get h.boards) canvas key (keys_at g canvas) []
    → wires_among w' numbers' (keys_at h canvas) ≡ wires_among w numbers (keys_at g canvas)
wires_here g h w w' numbers numbers' canvas key F W M =
    let keys = keys_at g canvas in
    wires_with g h w w' numbers numbers' canvas key (length keys) F W (omega arith) (M.has ∙ sym (insert_last keys key))
    ∙ wires_below w numbers keys (W.numbered canvas) (W.inside canvas)
