-- One wire more or less, and the wires of a canvas that are saved.
use Rattle.std.proofs.Common.{◌≡◌, ◌≢◌, ℕ, zero, suc, Bool, true, false, cond, not, ◌&&◌, ◌==◌, List, [], ◌∷◌, ◌++◌, map, filter, length, slice_get, Option, Some, None, refl, sym, ap, ◌∙◌, subst, arith}
use Rattle.std.specs.Prelude.{option_map}
use Rattle.std.specs.List.{insert}
use Rattle.std.proofs.lemmas.Bool.Decides.{nat_tests}
use Rattle.std.proofs.lemmas.List.{map-append, length-map}
use Rattle.std.proofs.lemmas.Option.{none-some, same_Some, slice_get-map}
use Rattle.pd_canvas.specs.declared.wires.Wire.{Wire}
use Rattle.pd_canvas.specs.Wiring.{with_wire, is_same, without_wire, fan_out}
use Rattle.pd_canvas.proofs.SortLemmas.{sorted_with, sorted_without, fan_out_last, fan_out_other}
use Rattle.pd_web.specs.declared.lines.Line.{Line}
use Rattle.pd_web.specs.declared.sockets.Spot.{Spot}
use Rattle.pd_web.specs.declared.web.Hop.{Hop}
use Rattle.pd_web.specs.declared.web.Web.{Web}
use Rattle.pd_web.specs.Hops.{hop_by, hop_to, fan_keys, fan_hops}
use Rattle.pd_web.specs.Changes.{hop_at, line_by, line_told, Joins, CutsWire, without_hop}
use Rattle.pd_seek.specs.Places.{leads_to, key_to}
use Rattle.pd_present.specs.Presents.{number_in, wire_along, outlet_wires, wires_among}
use Rattle.pd_reload_law.specs.Wires.{AreNumbered, IsAmong, StayAmong, StandOnce, wire_by}
use Rattle.pd_reload_law.proofs.SortedLemmas.{by_test, from, sorted_same}
use Rattle.pd_reload_law.proofs.FanLemmas.{number_is, saved_sorted, saved_fan, saved_none}

by_option : {X : Type 0} {P : Type 0} (o : Option X) → (o ≡ None → P) → ((x : X) → o ≡ Some x → P) → P
by_option None n s = n refl
by_option (Some x) n s = s x refl

insert_last : {X : Type 0} (xs : List X) (n : ℕ) (x : X) → n ≡ length xs → insert xs n x ≡ xs ++ x ∷ []
insert_last [] zero x e = refl
insert_last [] (suc n) x e = cc
insert_last (y ∷ xs) zero x e = cc
insert_last (y ∷ xs) (suc n) x e = ap (λ (l : List _). y ∷ l) (insert_last xs n x (less n (length xs) e))
  where
    less : (n m : ℕ) → suc n ≡ suc m → n ≡ m
    less n m e = omega (arith, e)

-- ---- one wire more

-- which outlet it is
own_outlet : (a b s o : ℕ) → (a == s && b == o) ≡ true → (a ≡ s) × (b ≡ o)
own_outlet a b s o t = (first a b s o t, second a b s o t)
  where
    first : (a b s o : ℕ) → (a == s && b == o) ≡ true → a ≡ s
    first a b s o t = grind (arith, nat_tests)

    second : (a b s o : ℕ) → (a == s && b == o) ≡ true → b ≡ o
    second a b s o t = grind (arith, nat_tests)

not_outlet : (a b s o : ℕ) → (a == s && b == o) ≡ false → a ≡ s → b ≡ o → ⊥
not_outlet a b s o f g h = grind (arith, nat_tests)

other_source : (a b s o : ℕ) → a ≢ s → (a == s && b == o) ≡ false
other_source a b s o n = grind (arith, nat_tests)

-- the box of a number is the one of its key
one_number : (numbers keys : List ℕ) (i j k : ℕ) → AreNumbered numbers keys → slice_get keys i ≡ Some k → slice_get keys j ≡ Some k → i ≡ j
one_number numbers keys i j k h e f = same_Some i j (sym (h i k e) ∙ h j k f)

pub join_follows : (w w' : Web) (numbers keys : List ℕ) (key : ℕ) (l : Line) (place i : ℕ) → AreNumbered numbers keys → slice_get keys i ≡ Some l.source
    → Joins w w' key l (length (fan_keys w l.source l.outlet)) place
    → wires_among w' numbers keys ≡ with_wire (wire_by numbers l) (wires_among w numbers keys)
join_follows w w' numbers keys key l place i h at j =
    let ws = wires_among w numbers keys in
    let v = wire_by numbers l in
    let own : v.source ≡ i = number_is numbers l.source i (h i l.source at) in
    let sorted = saved_sorted w numbers keys h in
    sorted_same (wires_among w' numbers keys) (with_wire v ws) (saved_sorted w' numbers keys h) (sorted_with v ws sorted) (λ s o.
    by_option (slice_get keys s)
    (λ none. saved_none w' numbers keys s o h none ∙ sym (fan_out_other v ws s o (other_source v.source v.outlet s o
    (λ e. none-some l.source (sym none ∙ ap (slice_get keys) (sym e ∙ own) ∙ at)))
    ∙ saved_none w numbers keys s o h none))
    (λ k is. by_test (v.source == s && v.outlet == o)
    (λ t. let p = own_outlet v.source v.outlet s o t in
    let same : k ≡ l.source = same_Some k l.source (sym is ∙ ap (slice_get keys) (sym p.0 ∙ own) ∙ at) in
    saved_fan w' numbers keys s k o h is
    ∙ ap (λ x. outlet_wires w' numbers x o) same ∙ ap (outlet_wires w' numbers l.source) (sym p.1)
    ∙ ap (map (wire_along numbers l.source l.outlet)) (j.fan ∙ insert_last (fan_hops w l.source l.outlet) (length (fan_keys w l.source l.outlet)) (hop_at key l.sink l.inlet)
    (sym (length-map (fan_keys w l.source l.outlet) (hop_to w))))
    ∙ map-append (wire_along numbers l.source l.outlet) (fan_hops w l.source l.outlet) (hop_at key l.sink l.inlet ∷ [])
    ∙ ap (λ (x : List Wire). x ++ v ∷ []) (sym (saved_fan w numbers keys i l.source l.outlet h at) ∙ ap (λ x. fan_out x l.outlet ws) (sym own))
    ∙ sym (fan_out_last v ws sorted)
    ∙ ap (λ x. fan_out x v.outlet (with_wire v ws)) p.0 ∙ ap (λ x. fan_out s x (with_wire v ws)) p.1)
    (λ f. saved_fan w' numbers keys s k o h is
    ∙ ap (map (wire_along numbers k o)) (j.other_fans k o (λ e g. not_outlet v.source v.outlet s o f
    (own ∙ one_number numbers keys i s k h (at ∙ ap Some (sym e)) is) (sym g)))
    ∙ sym (saved_fan w numbers keys s k o h is) ∙ sym (fan_out_other v ws s o f))))

-- the fan-outs of the boxes of these keys stay
pub fans_stay : (w w' : Web) (numbers keys : List ℕ) → AreNumbered numbers keys → ((k o : ℕ) → IsAmong keys k → fan_hops w' k o ≡ fan_hops w k o)
    → wires_among w' numbers keys ≡ wires_among w numbers keys
fans_stay w w' numbers keys h same =
    sorted_same (wires_among w' numbers keys) (wires_among w numbers keys) (saved_sorted w' numbers keys h) (saved_sorted w numbers keys h) (λ s o.
    by_option (slice_get keys s)
    (λ none. saved_none w' numbers keys s o h none ∙ sym (saved_none w numbers keys s o h none))
    (λ k is. saved_fan w' numbers keys s k o h is ∙ ap (map (wire_along numbers k o)) (same k o (s, is)) ∙ sym (saved_fan w numbers keys s k o h is)))

pub join_elsewhere : (w w' : Web) (numbers keys : List ℕ) (key : ℕ) (l : Line) (fan_place place : ℕ) → AreNumbered numbers keys → (IsAmong keys l.source → ⊥)
    → Joins w w' key l fan_place place → wires_among w' numbers keys ≡ wires_among w numbers keys
join_elsewhere w w' numbers keys key l fan_place place h out j =
    fans_stay w w' numbers keys h (λ k o is. j.other_fans k o (λ e. absurd (out (subst (IsAmong keys) e is))))

-- ---- one wire less

-- what stands in a fan-out, by its key
key_by : (key : ℕ) (o : Option Spot) → (hop_by key o).key ≡ key
key_by key None = refl
key_by key (Some s) = refl

key_in : (w : Web) (o : Option ℕ) (h : Hop) → option_map (hop_to w) o ≡ Some h → o ≡ Some h.key
key_in w None h e = absurd (none-some h e)
key_in w (Some k) h e = ap Some (sym (key_by k _) ∙ ap (λ (x : Hop). x.key) (same_Some (hop_to w k) h e))

key_at : (w : Web) (node outlet i : ℕ) (h : Hop) → slice_get (fan_hops w node outlet) i ≡ Some h → slice_get (fan_keys w node outlet) i ≡ Some h.key
key_at w node outlet i h e =
    key_in w (slice_get (fan_keys w node outlet) i) h (sym (slice_get-map (hop_to w) (fan_keys w node outlet) i) ∙ e)

-- a hop of this key stands in the list, and leads along the line
record IsFound (l : Line) (hops : List Hop) (key : ℕ) : Type 0 where
  place : ℕ
  hop : Hop
  stands : slice_get hops place ≡ Some hop
  is : hop.key ≡ key

found_by : (b : Bool) (l : Line) (h : Hop) (hops : List Hop) (key : ℕ) → (key_to l hops ≡ Some key → IsFound l hops key)
    → cond b (Some h.key) (key_to l hops) ≡ Some key → IsFound l (h ∷ hops) key
found_by true l h hops key f e = record { place = 0; hop = h; stands = refl; is = same_Some h.key key e }
found_by false l h hops key f e = let g = f e in record { place = suc g.place; hop = g.hop; stands = g.stands; is = g.is }

found : (l : Line) (hops : List Hop) (key : ℕ) → key_to l hops ≡ Some key → IsFound l hops key
found l [] key e = absurd (none-some key e)
found l (h ∷ hops) key e = found_by (leads_to l h) l h hops key (found l hops key) e

-- no hop of the list has this key
abbrev IsNowhere : ℕ → List Hop → Type 0
IsNowhere key hops = (i : ℕ) (h : Hop) → slice_get hops i ≡ Some h → h.key ≢ key

test_no : (a b : ℕ) → a ≢ b → not (a == b) ≡ true
test_no a b n = grind (arith, nat_tests)

test_yes : (a b : ℕ) → a ≡ b → not (a == b) ≡ false
test_yes a b e = grind (arith, nat_tests)

kept_step : (b : Bool) (h : Hop) (xs ys : List Hop) → b ≡ true → xs ≡ ys → cond b (h ∷ xs) xs ≡ h ∷ ys
kept_step true h xs ys t e = ap (λ (l : List Hop). h ∷ l) e
kept_step false h xs ys t e = cc

gone_step : (b : Bool) (h : Hop) (xs ys : List Hop) → b ≡ false → xs ≡ ys → cond b (h ∷ xs) xs ≡ ys
gone_step true h xs ys t e = cc
gone_step false h xs ys t e = e

without_none : (key : ℕ) (hops : List Hop) → IsNowhere key hops → without_hop key hops ≡ hops
without_none key [] n = refl
without_none key (h ∷ hops) n =
    kept_step (not (h.key == key)) h (without_hop key hops) hops (test_no h.key key (n 0 h refl)) (without_none key hops (λ i g. n (suc i) g))

-- each key stands once in the list
abbrev AreOnce : List Hop → Type 0
AreOnce hops = (i j : ℕ) (g h : Hop) → slice_get hops i ≡ Some g → slice_get hops j ≡ Some h → g.key ≡ h.key → i ≡ j

once_behind : (h : Hop) (hops : List Hop) → AreOnce (h ∷ hops) → AreOnce hops
once_behind h hops u i j g x e f s = less i j (u (suc i) (suc j) g x e f s)
  where
    less : (n m : ℕ) → suc n ≡ suc m → n ≡ m
    less n m e = omega (arith, e)

first_apart : (h : Hop) (hops : List Hop) (i : ℕ) (g : Hop) → AreOnce (h ∷ hops) → slice_get hops i ≡ Some g → g.key ≢ h.key
first_apart h hops i g u e s = never i (u 0 (suc i) h g refl e (sym s))
  where
    never : (i : ℕ) → 0 ≢ suc i
    never i e = cc

-- the hops of a fan-out lead to boxes of these keys
abbrev LeadAmong : List ℕ → List Hop → Type 0
LeadAmong keys hops = (i : ℕ) (h : Hop) → slice_get hops i ≡ Some h → IsAmong keys h.node

same_test : (s o a b p q : ℕ) → (s == s && o == o && a == b && p == q) ≡ (a == b && p == q)
same_test s o a b p q = grind (arith, nat_tests)

numbers_test : (a b x y : ℕ) → (a ≡ b → x ≡ y) → (x ≡ y → a ≡ b) → (a == b) ≡ (x == y)
numbers_test a b x y f g =
    by_test (a == b)
    (λ t. let e : a ≡ b = grind (arith, nat_tests) in t ∙ sym (test_is x y (f e)))
    (λ t. t ∙ sym (test_isnt x y (λ e. no a b t (g e))))
  where
    test_is : (x y : ℕ) → x ≡ y → (x == y) ≡ true
    test_is x y e = grind (arith, nat_tests)

    test_isnt : (x y : ℕ) → x ≢ y → (x == y) ≡ false
    test_isnt x y e = grind (arith, nat_tests)

    no : (a b : ℕ) → (a == b) ≡ false → a ≢ b
    no a b t e = grind (arith, nat_tests)

-- a hop leads along a line exactly where the wires are the same by numbers
same_by_numbers : (numbers keys : List ℕ) (l : Line) (h : Hop) → AreNumbered numbers keys → IsAmong keys l.sink → IsAmong keys h.node
    → is_same (wire_along numbers l.source l.outlet h) (wire_by numbers l) ≡ leads_to l h
same_by_numbers numbers keys l h n to from_there =
    let a = number_is numbers h.node from_there.0 (n from_there.0 h.node from_there.1) in
    let b = number_is numbers l.sink to.0 (n to.0 l.sink to.1) in
    same_test (number_in numbers l.source) l.outlet (number_in numbers h.node) (number_in numbers l.sink) h.port l.inlet
    ∙ ap (λ x. x && h.port == l.inlet) (numbers_test (number_in numbers h.node) (number_in numbers l.sink) h.node l.sink
    (λ e. same_Some h.node l.sink (sym from_there.1 ∙ ap (slice_get keys) (sym a ∙ e ∙ b) ∙ to.1))
    (ap (number_in numbers)))

wires_step : (b c : Bool) (v : Wire) (xs ys : List Wire) → b ≡ c → c ≡ true → cond b xs (v ∷ ys) ≡ xs
wires_step true c v xs ys e t = refl
wires_step false true v xs ys e t = cc
wires_step false false v xs ys e t = cc

wires_on : (b c : Bool) (v : Wire) (xs ys : List Wire) → b ≡ c → c ≡ false → cond b xs (v ∷ ys) ≡ v ∷ ys
wires_on true true v xs ys e t = cc
wires_on true false v xs ys e t = cc
wires_on false c v xs ys e t = refl

taken : (b : Bool) (x : ℕ) (o : Option ℕ) (key : ℕ) → b ≡ true → cond b (Some x) o ≡ Some key → x ≡ key
taken true x o key t e = same_Some x key e
taken false x o key t e = cc

passed : (b : Bool) (x : ℕ) (o : Option ℕ) (key : ℕ) → b ≡ false → cond b (Some x) o ≡ Some key → o ≡ Some key
passed true x o key t e = cc
passed false x o key t e = e

first_gone : (numbers keys : List ℕ) (l : Line) (key : ℕ) (hops : List Hop) → AreNumbered numbers keys → IsAmong keys l.sink → LeadAmong keys hops → AreOnce hops
    → key_to l hops ≡ Some key
    → map (wire_along numbers l.source l.outlet) (without_hop key hops) ≡ without_wire (wire_by numbers l) (map (wire_along numbers l.source l.outlet) hops)
first_gone numbers keys l key [] n to lead u e = absurd (none-some key e)
first_gone numbers keys l key (h ∷ hops) n to lead u e =
    let along = wire_along numbers l.source l.outlet in
    let v = wire_by numbers l in
    let same = same_by_numbers numbers keys l h n to (lead 0 h refl) in
    by_test (leads_to l h)
    (λ t. let is : h.key ≡ key = taken (leads_to l h) h.key (key_to l hops) key t e in
    ap (map along) (gone_step (not (h.key == key)) h (without_hop key hops) hops (test_yes h.key key is)
    (without_none key hops (λ i g s x. first_apart h hops i g u s (x ∙ sym is))))
    ∙ sym (wires_step (is_same (along h) v) (leads_to l h) (along h) (map along hops) (without_wire v (map along hops)) same t))
    (λ f. let on = passed (leads_to l h) h.key (key_to l hops) key f e in
    let there = found l hops key on in
    let other : h.key ≢ key = λ x. first_apart h hops there.place there.hop u there.stands (there.is ∙ sym x) in
    ap (map along) (kept_step (not (h.key == key)) h (without_hop key hops) (without_hop key hops) (test_no h.key key other) refl)
    ∙ ap (λ (x : List Wire). along h ∷ x) (first_gone numbers keys l key hops n to (λ i g. lead (suc i) g) (once_behind h hops u) on)
    ∙ sym (wires_on (is_same (along h) v) (leads_to l h) (along h) (map along hops) (without_wire v (map along hops)) same f))

-- ---- the fan-outs of a list without a wire

out_own : (b c : Bool) (v x : Wire) (p : Wire → Bool) (xs : List Wire) → is_same x v ≡ b → p x ≡ c → (b ≡ true → c ≡ true)
    → filter p (without_wire v xs) ≡ without_wire v (filter p xs)
    → filter p (cond b xs (x ∷ without_wire v xs)) ≡ without_wire v (cond c (x ∷ filter p xs) (filter p xs))
out_own true true v x p xs e g k r = sym (first (is_same x v) e)
  where
    first : (b : Bool) → b ≡ true → cond b (filter p xs) (x ∷ without_wire v (filter p xs)) ≡ filter p xs
    first true t = refl
    first false t = cc
out_own true false v x p xs e g k r =
    let f : false ≡ true = k refl in cc
out_own false true v x p xs e g k r = keeps (p x) (is_same x v) g e
  where
    keeps : (c b : Bool) → c ≡ true → b ≡ false
        → cond c (x ∷ filter p (without_wire v xs)) (filter p (without_wire v xs)) ≡ cond b (filter p xs) (x ∷ without_wire v (filter p xs))
    keeps true false s t = ap (λ (l : List Wire). x ∷ l) r
    keeps true true s t = cc
    keeps false b s t = cc
out_own false false v x p xs e g k r = skips (p x) g
  where
    skips : (c : Bool) → c ≡ false → cond c (x ∷ filter p (without_wire v xs)) (filter p (without_wire v xs)) ≡ without_wire v (filter p xs)
    skips true s = cc
    skips false s = r

same_from : (a b c d e f g h s o : ℕ) → (a == e && b == f && c == g && d == h) ≡ true → (e == s && f == o) ≡ true → (a == s && b == o) ≡ true
same_from a b c d e f g h s o x y = grind (arith, nat_tests)

-- of the outlet of the wire
out_of_own : (v : Wire) (ws : List Wire) (s o : ℕ) → from s o v ≡ true → fan_out s o (without_wire v ws) ≡ without_wire v (fan_out s o ws)
out_of_own v [] s o t = refl
out_of_own v (x ∷ xs) s o t =
    out_own (is_same x v) (from s o x) v x (from s o) xs refl refl
    (λ e. same_from x.source x.outlet x.sink x.inlet v.source v.outlet v.sink v.inlet s o e t) (out_of_own v xs s o t)

same_not : (a b c d e f g h s o : ℕ) → (a == e && b == f && c == g && d == h) ≡ true → (e == s && f == o) ≡ false → (a == s && b == o) ≡ false
same_not a b c d e f g h s o x y = grind (arith, nat_tests)

out_step : (b c : Bool) (v x : Wire) (p : Wire → Bool) (xs : List Wire) → p x ≡ c → (b ≡ true → c ≡ false) → filter p (without_wire v xs) ≡ filter p xs
    → filter p (cond b xs (x ∷ without_wire v xs)) ≡ cond (p x) (x ∷ filter p xs) (filter p xs)
out_step true c v x p xs g k r = sym (skips (p x) (g ∙ k refl))
  where
    skips : (c : Bool) → c ≡ false → cond c (x ∷ filter p xs) (filter p xs) ≡ filter p xs
    skips true s = cc
    skips false s = refl
out_step false c v x p xs g k r = ap (λ (l : List Wire). cond (p x) (x ∷ l) l) r

-- of another outlet
out_of_other : (v : Wire) (ws : List Wire) (s o : ℕ) → from s o v ≡ false → fan_out s o (without_wire v ws) ≡ fan_out s o ws
out_of_other v [] s o f = refl
out_of_other v (x ∷ xs) s o f =
    out_step (is_same x v) (from s o x) v x (from s o) xs refl
    (λ e. same_not x.source x.outlet x.sink x.inlet v.source v.outlet v.sink v.inlet s o e f) (out_of_other v xs s o f)

-- ---- what is saved after a cut

once_there : (w : Web) (node outlet : ℕ) → StandOnce w → AreOnce (fan_hops w node outlet)
once_there w node outlet once i j g h e f s =
    once.once node outlet i j h.key (key_at w node outlet i g e ∙ ap Some s) (key_at w node outlet j h f)

-- a key of one fan-out stands in no other
not_there : (w : Web) (l : Line) (key k o : ℕ) → StandOnce w → IsFound l (fan_hops w l.source l.outlet) key → (k ≡ l.source → o ≡ l.outlet → ⊥) → IsNowhere key (fan_hops w k o)
not_there w l key k o once f apart i h e s =
    let here = once.lines k o i h e in
    let there = once.lines l.source l.outlet f.place f.hop f.stands in
    let same : line_by (hop_at h.key k o) h ≡ line_by (hop_at f.hop.key l.source l.outlet) f.hop =
    same_Some _ _ (sym here ∙ ap (line_told w) (s ∙ sym f.is) ∙ there) in
    apart (ap (λ (x : Line). x.source) same) (ap (λ (x : Line). x.outlet) same)

pub cut_follows : (w w' : Web) (numbers keys : List ℕ) (key : ℕ) (l : Line) (i : ℕ) → AreNumbered numbers keys → StandOnce w → StayAmong w keys
    → slice_get keys i ≡ Some l.source → IsAmong keys l.sink → key_to l (fan_hops w l.source l.outlet) ≡ Some key → CutsWire w w' key
    → wires_among w' numbers keys ≡ without_wire (wire_by numbers l) (wires_among w numbers keys)
cut_follows w w' numbers keys key l i h once stay at to first c =
    let ws = wires_among w numbers keys in
    let v = wire_by numbers l in
    let own : v.source ≡ i = number_is numbers l.source i (h i l.source at) in
    let there = found l (fan_hops w l.source l.outlet) key first in
    sorted_same (wires_among w' numbers keys) (without_wire v ws) (saved_sorted w' numbers keys h) (sorted_without v ws (saved_sorted w numbers keys h)) (λ s o.
    by_option (slice_get keys s)
    (λ none. saved_none w' numbers keys s o h none ∙ sym (out_of_other v ws s o (other_source v.source v.outlet s o
    (λ e. none-some l.source (sym none ∙ ap (slice_get keys) (sym e ∙ own) ∙ at)))
    ∙ saved_none w numbers keys s o h none))
    (λ k is. by_test (v.source == s && v.outlet == o)
    (λ t. let p = own_outlet v.source v.outlet s o t in
    let same : k ≡ l.source = same_Some k l.source (sym is ∙ ap (slice_get keys) (sym p.0 ∙ own) ∙ at) in
    saved_fan w' numbers keys s k o h is
    ∙ ap (λ x. outlet_wires w' numbers x o) same ∙ ap (outlet_wires w' numbers l.source) (sym p.1)
    ∙ ap (map (wire_along numbers l.source l.outlet)) (c.fans l.source l.outlet)
    ∙ first_gone numbers keys l key (fan_hops w l.source l.outlet) h to (λ j g. stay l.source l.outlet j g (i, at)) (once_there w l.source l.outlet once) first
    ∙ ap (without_wire v) (sym (saved_fan w numbers keys i l.source l.outlet h at) ∙ ap (λ x. fan_out x l.outlet ws) (sym own)
    ∙ ap (λ x. fan_out x v.outlet ws) p.0 ∙ ap (λ x. fan_out s x ws) p.1)
    ∙ sym (out_of_own v ws s o t))
    (λ f. saved_fan w' numbers keys s k o h is
    ∙ ap (map (wire_along numbers k o)) (c.fans k o ∙ without_none key (fan_hops w k o) (not_there w l key k o once there (λ e g. not_outlet v.source v.outlet s o f
    (own ∙ one_number numbers keys i s k h (at ∙ ap Some (sym e)) is) (sym g))))
    ∙ sym (saved_fan w numbers keys s k o h is) ∙ sym (out_of_other v ws s o f))))

pub cut_elsewhere : (w w' : Web) (numbers keys : List ℕ) (key : ℕ) (l : Line) → AreNumbered numbers keys → StandOnce w → (IsAmong keys l.source → ⊥)
    → key_to l (fan_hops w l.source l.outlet) ≡ Some key → CutsWire w w' key → wires_among w' numbers keys ≡ wires_among w numbers keys
cut_elsewhere w w' numbers keys key l h once out first c =
    let there = found l (fan_hops w l.source l.outlet) key first in
    fans_stay w w' numbers keys h (λ k o is. c.fans k o ∙ without_none key (fan_hops w k o)
    (not_there w l key k o once there (λ e g. out (subst (IsAmong keys) e is))))
