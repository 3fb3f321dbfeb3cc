-- The wires of a canvas that are saved: they are sorted, and have the fan-outs of its boxes.
use Rattle.std.proofs.Common.{◌≡◌, ◌≢◌, ℕ, zero, suc, ◌+◌, ◌≤◌, ◌<◌, false, ◌&&◌, ◌==◌, List, [], ◌∷◌, ◌++◌, map, length, slice_get, Option, Some, None, refl, sym, ap, ◌∙◌, arith, append-nil}
use Rattle.std.specs.Prelude.{option_and_then, nat_lt}
use Rattle.std.specs.Option.{option_map_or}
use Rattle.std.specs.List.{AllByRecursion}
use Rattle.std.proofs.lemmas.Bool.Decides.{nat_tests}
use Rattle.std.proofs.lemmas.List.{length-map}
use Rattle.std.proofs.lemmas.List.Elements.{filter-append}
use Rattle.std.proofs.lemmas.Option.{none-some, slice_get_past, same_Some}
use Rattle.pd_canvas.specs.declared.wires.Wire.{Wire}
use Rattle.pd_canvas.specs.Wiring.{precedes, AreSorted, fan_out}
use Rattle.pd_grove.specs.declared.ports.Side.TheVariants.{Outlets}
use Rattle.pd_web.specs.declared.web.Hop.{Hop}
use Rattle.pd_web.specs.declared.web.Web.{Web}
use Rattle.pd_web.specs.declared.sockets.Port.{Port}
use Rattle.pd_web.specs.Sockets.{ports_at, jacks_of}
use Rattle.pd_web.specs.Hops.{hop_to, fan_under, fan_hops, ports_told}
use Rattle.pd_present.specs.Presents.{number_in, wire_along, outlet_wires, box_wires, wires_among}
use Rattle.pd_reload_law.specs.Wires.{AreNumbered}
use Rattle.pd_reload_law.proofs.SortedLemmas.{by_test, less, from, all_on, all_append, AreBefore, sorted_append, IsPast, AreAt, outlets_past, outlets_sorted, outlets_fan, outlets_out, fan_none}

-- the boxes of these keys have the numbers from one on
abbrev AreFrom : ℕ → List ℕ → List ℕ → Type 0
AreFrom n numbers keys = (i k : ℕ) → slice_get keys i ≡ Some k → slice_get numbers k ≡ Some (n + i)

from_next : (n : ℕ) (numbers : List ℕ) (k : ℕ) (ks : List ℕ) → AreFrom n numbers (k ∷ ks) → AreFrom (n + 1) numbers ks
from_next n numbers k ks h i j e = h (suc i) j e ∙ ap Some (next n i)
  where
    next : (n i : ℕ) → n + suc i ≡ n + 1 + i
    next n i = omega arith

pub number_is : (numbers : List ℕ) (k n : ℕ) → slice_get numbers k ≡ Some n → number_in numbers k ≡ n
number_is numbers k n e = ap (λ (o : Option ℕ). option_map_or (λ n. n) o 0) e

first_number : (n : ℕ) (numbers : List ℕ) (k : ℕ) (ks : List ℕ) → AreFrom n numbers (k ∷ ks) → number_in numbers k ≡ n
first_number n numbers k ks h = number_is numbers k (n + 0) (h 0 k refl) ∙ plain n
  where
    plain : (n : ℕ) → n + 0 ≡ n
    plain n = omega arith

-- ---- one box

along_at : (numbers : List ℕ) (k s o : ℕ) (hops : List Hop) → number_in numbers k ≡ s → AreAt s o (map (wire_along numbers k o) hops)
along_at numbers k s o [] e = tt
along_at numbers k s o (h ∷ hops) e = (record { source = e; outlet = refl }, along_at numbers k s o hops e)

outlet_at : (w : Web) (numbers : List ℕ) (k s : ℕ) → number_in numbers k ≡ s → (o : ℕ) → AreAt s o (outlet_wires w numbers k o)
outlet_at w numbers k s e o = along_at numbers k s o (fan_hops w k o) e

-- an outlet that isn't there has no wires
pub fan_past : (w : Web) (k o : ℕ) → length (ports_told w Outlets k) ≤ o → fan_hops w k o ≡ []
fan_past w k o l =
    let ports = ports_at w.sockets.items Outlets k in
    let same : length (jacks_of ports) ≡ length ports = length-map ports (λ p. p.jack) in
    let past : length ports ≤ o = omega (arith, l, same) in
    ap (λ (p : Option Port). map (hop_to w) (fan_under w.book (option_and_then (λ p. p.end) p))) (slice_get_past ports o past)

box_fan : (w : Web) (numbers : List ℕ) (k s o : ℕ) → number_in numbers k ≡ s → fan_out s o (box_wires w numbers k) ≡ outlet_wires w numbers k o
box_fan w numbers k s o e =
    let n = length (ports_told w Outlets k) in
    by_test (nat_lt o n)
    (λ t. let l : o < 0 + n = grind (arith, nat_tests) in outlets_fan s (outlet_wires w numbers k) 0 n o (outlet_at w numbers k s e) (omega arith) l)
    (λ f. let l : n ≤ o = grind (arith, nat_tests) in
    let far : 0 + n ≤ o = omega (arith, l) in
    outlets_out s (outlet_wires w numbers k) 0 n o (outlet_at w numbers k s e) far ∙ sym (ap (map (wire_along numbers k o)) (fan_past w k o l)))

-- ---- boxes

abbrev IsFrom : ℕ → Wire → Type 0
IsFrom n v = n ≤ v.source

box_from : (w : Web) (numbers : List ℕ) (k s : ℕ) → number_in numbers k ≡ s → AllByRecursion (IsPast s 0) (box_wires w numbers k)
box_from w numbers k s e = outlets_past s (outlet_wires w numbers k) 0 (length (ports_told w Outlets k)) (outlet_at w numbers k s e)

wires_from : (w : Web) (numbers : List ℕ) (n : ℕ) (keys : List ℕ) → AreFrom n numbers keys → AllByRecursion (IsFrom n) (wires_among w numbers keys)
wires_from w numbers n [] h = tt
wires_from w numbers n (k ∷ ks) h =
    all_append (IsFrom n) (box_wires w numbers k) (wires_among w numbers ks)
    (all_on (IsPast n 0) (IsFrom n) (box_wires w numbers k) (λ v i. omega (arith, i.source)) (box_from w numbers k n (first_number n numbers k ks h)))
    (all_on (IsFrom (n + 1)) (IsFrom n) (wires_among w numbers ks) (λ v i. omega (arith, i)) (wires_from w numbers (n + 1) ks (from_next n numbers k ks h)))

later_all : (n : ℕ) (x : Wire) (ys : List Wire) → x.source ≡ n → AllByRecursion (IsFrom (n + 1)) ys → AllByRecursion (λ y. precedes y x ≡ false) ys
later_all n x ys e h = all_on (IsFrom (n + 1)) (λ y. precedes y x ≡ false) ys (λ y l. not_less n x.source x.outlet y.source y.outlet e l) h
  where
    not_less : (n a b c d : ℕ) → a ≡ n → n + 1 ≤ c → less c d a b ≡ false
    not_less n a b c d e l = grind (arith, nat_tests)

later_before : (n : ℕ) (xs ys : List Wire) → AllByRecursion (IsPast n 0) xs → AllByRecursion (IsFrom (n + 1)) ys → AreBefore xs ys
later_before n [] ys h k = tt
later_before n (x ∷ xs) ys h k = (later_all n x ys h.0.source k, later_before n xs ys h.1 k)

sorted_from : (w : Web) (numbers : List ℕ) (n : ℕ) (keys : List ℕ) → AreFrom n numbers keys → AreSorted (wires_among w numbers keys)
sorted_from w numbers n [] h = tt
sorted_from w numbers n (k ∷ ks) h =
    let first = first_number n numbers k ks h in
    let rest = from_next n numbers k ks h in
    sorted_append (box_wires w numbers k) (wires_among w numbers ks)
    (outlets_sorted n (outlet_wires w numbers k) 0 (length (ports_told w Outlets k)) (outlet_at w numbers k n first))
    (sorted_from w numbers (n + 1) ks rest)
    (later_before n (box_wires w numbers k) (wires_among w numbers ks) (box_from w numbers k n first) (wires_from w numbers (n + 1) ks rest))

-- the wires of boxes of greater numbers
none_before : (n s o : ℕ) (xs : List Wire) → s < n → AllByRecursion (IsFrom n) xs → fan_out s o xs ≡ []
none_before n s o xs l h = fan_none s o xs (all_on (IsFrom n) (λ x. from s o x ≡ false) xs (λ x i. not_from n s o x.source x.outlet l i) h)
  where
    not_from : (n s o a b : ℕ) → s < n → n ≤ a → (a == s && b == o) ≡ false
    not_from n s o a b l h = grind (arith, nat_tests)

-- those of a box of another number
none_of : (n s o : ℕ) (xs : List Wire) → n ≢ s → AllByRecursion (IsPast n 0) xs → fan_out s o xs ≡ []
none_of n s o xs l h = fan_none s o xs (all_on (IsPast n 0) (λ x. from s o x ≡ false) xs (λ x i. not_from n s o x.source x.outlet l i.source) h)
  where
    not_from : (n s o a b : ℕ) → n ≢ s → a ≡ n → (a == s && b == o) ≡ false
    not_from n s o a b l h = grind (arith, nat_tests)

further : (n i : ℕ) → n ≢ n + suc i
further n i e = omega (arith, e)

fan_from : (w : Web) (numbers : List ℕ) (n : ℕ) (keys : List ℕ) (i k o : ℕ) → AreFrom n numbers keys → slice_get keys i ≡ Some k
    → fan_out (n + i) o (wires_among w numbers keys) ≡ outlet_wires w numbers k o
fan_from w numbers n [] i k o h e = absurd (none-some k e)
fan_from w numbers n (j ∷ ks) zero k o h e =
    let same : j ≡ k = same_Some j k e in
    let first = first_number n numbers j ks h in
    let rest = from_next n numbers j ks h in
    let plain : n + 0 ≡ n = omega arith in
    ap (λ s. fan_out s o (wires_among w numbers (j ∷ ks))) plain
    ∙ filter-append (from n o) (box_wires w numbers j) (wires_among w numbers ks)
    ∙ ap (λ (x : List Wire). fan_out n o (box_wires w numbers j) ++ x) (none_before (n + 1) n o (wires_among w numbers ks) (omega arith) (wires_from w numbers (n + 1) ks rest))
    ∙ append-nil (fan_out n o (box_wires w numbers j))
    ∙ box_fan w numbers j n o first ∙ ap (λ x. outlet_wires w numbers x o) same
fan_from w numbers n (j ∷ ks) (suc i) k o h e =
    let first = first_number n numbers j ks h in
    let next : n + suc i ≡ n + 1 + i = omega arith in
    filter-append (from (n + suc i) o) (box_wires w numbers j) (wires_among w numbers ks)
    ∙ ap (λ (x : List Wire). x ++ fan_out (n + suc i) o (wires_among w numbers ks)) (none_of n (n + suc i) o (box_wires w numbers j) (further n i) (box_from w numbers j n first))
    ∙ ap (λ s. fan_out s o (wires_among w numbers ks)) next
    ∙ fan_from w numbers (n + 1) ks i k o (from_next n numbers j ks h) e

none_from : (w : Web) (numbers : List ℕ) (n : ℕ) (keys : List ℕ) (i o : ℕ) → AreFrom n numbers keys → slice_get keys i ≡ None
    → fan_out (n + i) o (wires_among w numbers keys) ≡ []
none_from w numbers n [] i o h e = refl
none_from w numbers n (j ∷ ks) zero o h e = absurd (none-some j (sym e))
none_from w numbers n (j ∷ ks) (suc i) o h e =
    let first = first_number n numbers j ks h in
    let next : n + suc i ≡ n + 1 + i = omega arith in
    filter-append (from (n + suc i) o) (box_wires w numbers j) (wires_among w numbers ks)
    ∙ ap (λ (x : List Wire). x ++ fan_out (n + suc i) o (wires_among w numbers ks)) (none_of n (n + suc i) o (box_wires w numbers j) (further n i) (box_from w numbers j n first))
    ∙ ap (λ s. fan_out s o (wires_among w numbers ks)) next
    ∙ none_from w numbers (n + 1) ks i o (from_next n numbers j ks h) e

-- ---- a canvas

plain_from : (numbers keys : List ℕ) → AreNumbered numbers keys → AreFrom 0 numbers keys
plain_from numbers keys h i k e = h i k e ∙ ap Some (plain i)
  where
    plain : (i : ℕ) → i ≡ 0 + i
    plain i = omega arith

pub saved_sorted : (w : Web) (numbers keys : List ℕ) → AreNumbered numbers keys → AreSorted (wires_among w numbers keys)
saved_sorted w numbers keys h = sorted_from w numbers 0 keys (plain_from numbers keys h)

pub saved_fan : (w : Web) (numbers keys : List ℕ) (i k o : ℕ) → AreNumbered numbers keys → slice_get keys i ≡ Some k
    → fan_out i o (wires_among w numbers keys) ≡ outlet_wires w numbers k o
saved_fan w numbers keys i k o h e =
    let plain : i ≡ 0 + i = omega arith in
    ap (λ s. fan_out s o (wires_among w numbers keys)) plain ∙ fan_from w numbers 0 keys i k o (plain_from numbers keys h) e

pub saved_none : (w : Web) (numbers keys : List ℕ) (i o : ℕ) → AreNumbered numbers keys → slice_get keys i ≡ None
    → fan_out i o (wires_among w numbers keys) ≡ []
saved_none w numbers keys i o h e =
    let plain : i ≡ 0 + i = omega arith in
    ap (λ s. fan_out s o (wires_among w numbers keys)) plain ∙ none_from w numbers 0 keys i o (plain_from numbers keys h) e
