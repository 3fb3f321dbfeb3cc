-- The wires of a canvas that are saved, where a box goes.
use Rattle.std.proofs.Common.{◌≡◌, ◌≢◌, ℕ, zero, suc, Bool, true, false, cond, ◌==◌, ◌&&◌, List, [], ◌∷◌, map, slice_get, Some, IsSome, refl, sym, ap, ◌∙◌, arith}
use Rattle.std.specs.Prelude.{remove, filter, not, nat_lt}
use Rattle.std.proofs.lemmas.Bool.Decides.{nat_tests}
use Rattle.std.proofs.lemmas.Option.{same_Some}
use Rattle.slab.specs.Slab.{get}
use Rattle.pd_canvas.specs.declared.wires.Wire.{Wire}
use Rattle.pd_canvas.specs.Wiring.{fan_out, lowered, lowered_wire, spares, without_box}
use Rattle.pd_canvas.proofs.SortLemmas.{sorted_box}
use Rattle.pd_grove.specs.declared.grove.Grove.{Grove}
use Rattle.pd_grove.specs.Telling.{keys_in}
use Rattle.pd_web.specs.declared.web.Hop.{Hop}
use Rattle.pd_web.specs.declared.web.Web.{Web}
use Rattle.pd_web.specs.Canvases.{keys_at}
use Rattle.pd_web.specs.Hops.{fan_hops}
use Rattle.pd_present.specs.Presents.{number_in, wire_along, wires_among}
use Rattle.pd_reload_law.specs.Wires.{IsAmong}
use Rattle.pd_reload_law.proofs.SortedLemmas.{by_test, from, sorted_same}
use Rattle.pd_reload_law.proofs.FanLemmas.{number_is, saved_sorted, saved_fan, saved_none}
use Rattle.pd_putting_law.proofs.ListLemmas.{by_option}
use Rattle.pd_putting_law.proofs.PathLemmas.{live_box}
use Rattle.pd_taking_law.specs.Taking.{TakesBoxAt, CutsBox, leads_past}
use Rattle.pd_taking_law.proofs.StayLemmas.{forest_still, keys_less}

-- the number that a box had before one of a lower number or the same went
abbrev raised : ℕ → ℕ → ℕ
raised n s = cond (nat_lt s n) s (suc s)

raised_apart : (n s : ℕ) → raised n s ≢ n
raised_apart n s e = by_test (nat_lt s n) (λ t. low t (sym (ap (λ b. cond b s (suc s)) t) ∙ e)) (λ f. high f (sym (ap (λ b. cond b s (suc s)) f) ∙ e))
  where
    low : nat_lt s n ≡ true → s ≡ n → ⊥
    low t h = grind (arith, nat_tests)

    high : nat_lt s n ≡ false → suc s ≡ n → ⊥
    high t h = grind (arith, nat_tests)

raised_back : (n s : ℕ) → lowered n (raised n s) ≡ s
raised_back n s = grind (arith, nat_tests)

raised_on : (n k : ℕ) → k ≢ n → raised n (lowered n k) ≡ k
raised_on n k apart = grind (arith, nat_tests)

-- the elements behind move up by one place
get_less : (xs : List ℕ) (n s : ℕ) → slice_get (remove xs n) s ≡ slice_get xs (raised n s)
get_less [] zero s = refl
get_less [] (suc n) s = refl
get_less (x ∷ xs) zero s = sym (ap (slice_get (x ∷ xs)) (next s))
  where
    next : (s : ℕ) → raised 0 s ≡ suc s
    next s = grind (arith, nat_tests)
get_less (x ∷ xs) (suc n) zero = sym (ap (slice_get (x ∷ xs)) (first n))
  where
    first : (n : ℕ) → raised (suc n) 0 ≡ 0
    first n = grind (arith, nat_tests)
get_less (x ∷ xs) (suc n) (suc s) = get_less xs n s ∙ sym (ap (slice_get (x ∷ xs)) (next n s))
  where
    next : (n s : ℕ) → raised (suc n) (suc s) ≡ suc (raised n s)
    next n s = grind (arith, nat_tests)

-- ---- the fan-outs without a box

same_outlet : (n s o a b : ℕ) → a ≢ n → (lowered n a == s && b == o) ≡ (a == raised n s && b == o)
same_outlet n s o a b apart = grind (arith, nat_tests)

-- a wire that may be there, and others
with_first : (n : ℕ) (v : Wire) (vs : List Wire) (c : Bool) → spares n v ≡ true
    → without_box n (cond c (v ∷ vs) vs) ≡ cond c (lowered_wire n v ∷ without_box n vs) (without_box n vs)
with_first n v vs true e = ap (λ b. map (lowered_wire n) (cond b (v ∷ filter (spares n) vs) (filter (spares n) vs))) e
with_first n v vs false e = refl

less_first : (n : ℕ) (v : Wire) (vs : List Wire) (c : Bool) → spares n v ≡ false → without_box n (cond c (v ∷ vs) vs) ≡ without_box n vs
less_first n v vs true e = ap (λ b. map (lowered_wire n) (cond b (v ∷ filter (spares n) vs) (filter (spares n) vs))) e
less_first n v vs false e = refl

fan_less : (n s o : ℕ) (ws : List Wire) → fan_out s o (without_box n ws) ≡ without_box n (fan_out (raised n s) o ws)
fan_less n s o [] = refl
fan_less n s o (v ∷ vs) = by (spares n v) refl (from (raised n s) o v) refl (fan_less n s o vs)
  where
    source : (a b n : ℕ) → (not (a == n) && not (b == n)) ≡ true → a ≢ n
    source a b n h e = grind (arith, nat_tests)

    by : (b : Bool) → spares n v ≡ b → (c : Bool) → from (raised n s) o v ≡ c → fan_out s o (without_box n vs) ≡ without_box n (fan_out (raised n s) o vs)
        → fan_out s o (map (lowered_wire n) (cond b (v ∷ filter (spares n) vs) (filter (spares n) vs)))
        ≡ without_box n (cond c (v ∷ fan_out (raised n s) o vs) (fan_out (raised n s) o vs))
    by true e c f k =
        ap (λ b. cond b (lowered_wire n v ∷ fan_out s o (without_box n vs)) (fan_out s o (without_box n vs)))
        (same_outlet n s o v.source v.outlet (source v.source v.sink n e) ∙ f)
        ∙ ap (λ (l : List Wire). cond c (lowered_wire n v ∷ l) l) k ∙ sym (with_first n v (fan_out (raised n s) o vs) c e)
    by false e c f k = k ∙ sym (less_first n v (fan_out (raised n s) o vs) c e)

-- the wires of one outlet
hops_less : (n : ℕ) (p : Hop → Bool) (f g : Hop → Wire) (xs : List Hop)
    → ((i : ℕ) (x : Hop) → slice_get xs i ≡ Some x → (spares n (f x) ≡ p x) × (p x ≡ true → g x ≡ lowered_wire n (f x)))
    → map g (filter p xs) ≡ without_box n (map f xs)
hops_less n p f g [] h = refl
hops_less n p f g (x ∷ xs) h =
    by (p x) (h 0 x refl).1 (hops_less n p f g xs (λ i y e. h (suc i) y e))
    ∙ sym (ap (λ b. map (lowered_wire n) (cond b (f x ∷ filter (spares n) (map f xs)) (filter (spares n) (map f xs)))) (h 0 x refl).0)
  where
    by : (b : Bool) → (b ≡ true → g x ≡ lowered_wire n (f x)) → map g (filter p xs) ≡ without_box n (map f xs)
        → map g (cond b (x ∷ filter p xs) (filter p xs)) ≡ map (lowered_wire n) (cond b (f x ∷ filter (spares n) (map f xs)) (filter (spares n) (map f xs)))
    by true e k = ap (λ (v : Wire). v ∷ map g (filter p xs)) (e refl) ∙ ap (λ (l : List Wire). lowered_wire n (f x) ∷ l) k
    by false e k = k

hops_same : (p : Hop → Bool) (f g : Hop → Wire) (xs : List Hop) → ((i : ℕ) (x : Hop) → slice_get xs i ≡ Some x → (p x ≡ true) × (g x ≡ f x))
    → map g (filter p xs) ≡ map f xs
hops_same p f g [] h = refl
hops_same p f g (x ∷ xs) h = by (p x) (h 0 x refl).0 (hops_same p f g xs (λ i y e. h (suc i) y e))
  where
    by : (b : Bool) → b ≡ true → map g (filter p xs) ≡ map f xs → map g (cond b (x ∷ filter p xs) (filter p xs)) ≡ f x ∷ map f xs
    by true e k = ap (λ (v : Wire). v ∷ map g (filter p xs)) (h 0 x refl).1 ∙ ap (λ (l : List Wire). f x ∷ l) k
    by false e k = cc

past_true : (a b : ℕ) → a ≢ b → not (a == b) ≡ true
past_true a b h = grind (arith, nat_tests)

past_apart : (a b : ℕ) → not (a == b) ≡ true → a ≢ b
past_apart a b h e = grind (arith, nat_tests)

-- where none of the wires leads to the box, none goes
pub none_gone : (key : ℕ) (xs : List Hop) → ((i : ℕ) (x : Hop) → slice_get xs i ≡ Some x → x.node ≢ key) → filter (leads_past key) xs ≡ xs
none_gone key [] h = refl
none_gone key (x ∷ xs) h = by (leads_past key x) (past_true x.node key (h 0 x refl)) (none_gone key xs (λ i y e. h (suc i) y e))
  where
    by : (b : Bool) → b ≡ true → filter (leads_past key) xs ≡ xs → cond b (x ∷ filter (leads_past key) xs) (filter (leads_past key) xs) ≡ x ∷ xs
    by true e k = ap (λ (l : List Hop). x ∷ l) k
    by false e k = cc

-- ---- two groves

module _ (g h : Grove) (path : List ℕ) (canvas key number : ℕ) (B : TakesBoxAt g h path canvas key number) (w w' : Web) (numbers numbers' : List ℕ)
    (W : CutsBox g h w w' numbers numbers' key) where
  -- the box lay in this canvas alone, at its number alone
  lay_here : (c i : ℕ) → slice_get (keys_at g c) i ≡ Some key → c ≡ canvas
  lay_here c i e = same_Some c canvas (sym (B.forest.own.home c i key e) ∙ B.forest.own.home canvas number key B.is)

  live : (c s k : ℕ) → slice_get (keys_at h c) s ≡ Some k → IsSome (get h.nodes k)
  live c s k is = live_box h (forest_still g h path canvas key number B) c s k is

  -- of each canvas but the one around the box
  pub wires_aside : (c : ℕ) → c ≢ canvas → get h.boards c ≡ get g.boards c → wires_among w' numbers' (keys_at h c) ≡ wires_among w numbers (keys_at g c)
  wires_aside c apart stays =
      sorted_same (wires_among w' numbers' (keys_at h c)) (wires_among w numbers (keys_at g c)) (saved_sorted w' numbers' (keys_at h c) (W.renumbered c))
      (saved_sorted w numbers (keys_at g c) (W.numbered c)) (λ s o.
      by_option (slice_get (keys_at g c) s)
      (λ none. saved_none w' numbers' (keys_at h c) s o (W.renumbered c) (at s ∙ none) ∙ sym (saved_none w numbers (keys_at g c) s o (W.numbered c) none))
      (λ k is. saved_fan w' numbers' (keys_at h c) s k o (W.renumbered c) (at s ∙ is) ∙ ap (map (wire_along numbers' k o)) (W.fans k o (live c s k (at s ∙ is)))
      ∙ hops_same (leads_past key) (wire_along numbers k o) (wire_along numbers' k o) (fan_hops w k o)
      (λ i x e. let a = W.inside c k o i x (s, is) e in (past x.node a, along k o x (s, is) a))
      ∙ sym (saved_fan w numbers (keys_at g c) s k o (W.numbered c) is)))
    where
      at : (s : ℕ) → slice_get (keys_at h c) s ≡ slice_get (keys_at g c) s
      at s = ap (λ o. slice_get (keys_in o) s) stays

      past : (j : ℕ) → IsAmong (keys_at g c) j → not (j == key) ≡ true
      past j a = past_true j key (λ e. apart (lay_here c a.0 (a.1 ∙ ap Some e)))

      same_number : (k : ℕ) → IsAmong (keys_at g c) k → number_in numbers' k ≡ number_in numbers k
      same_number k a = number_is numbers' k a.0 (W.renumbered c a.0 k (at a.0 ∙ a.1)) ∙ sym (number_is numbers k a.0 (W.numbered c a.0 k a.1))

      along : (k o : ℕ) (x : Hop) → IsAmong (keys_at g c) k → IsAmong (keys_at g c) x.node → wire_along numbers' k o x ≡ wire_along numbers k o x
      along k o x a b =
          ap (λ s. record { source = s; outlet = o; sink = number_in numbers' x.node; inlet = x.port }) (same_number k a)
          ∙ ap (λ s. record { source = number_in numbers k; outlet = o; sink = s; inlet = x.port }) (same_number x.node b)

  -- of the canvas around the box
  pub wires_here : wires_among w' numbers' (keys_at h canvas) ≡ without_box number (wires_among w numbers (keys_at g canvas))
  wires_here =
      let ws = wires_among w numbers (keys_at g canvas) in
      sorted_same (wires_among w' numbers' (keys_at h canvas)) (without_box number ws) (saved_sorted w' numbers' (keys_at h canvas) (W.renumbered canvas))
      (sorted_box number ws (saved_sorted w numbers (keys_at g canvas) (W.numbered canvas))) (λ s o.
      by_option (slice_get (keys_at h canvas) s)
      (λ none. saved_none w' numbers' (keys_at h canvas) s o (W.renumbered canvas) none
      ∙ sym (fan_less number s o ws ∙ ap (without_box number) (saved_none w numbers (keys_at g canvas) (raised number s) o (W.numbered canvas) (sym (at s) ∙ none))))
      (λ k is. saved_fan w' numbers' (keys_at h canvas) s k o (W.renumbered canvas) is ∙ ap (map (wire_along numbers' k o)) (W.fans k o (live canvas s k is))
      ∙ hops_less number (leads_past key) (wire_along numbers k o) (wire_along numbers' k o) (fan_hops w k o)
      (λ i x e. let a = W.inside canvas k o i x (raised number s, sym (at s) ∙ is) e in
      (test k s x.node (sym (at s) ∙ is) a, λ p. along k o s x (sym (at s) ∙ is) a (past_apart x.node key p)))
      ∙ sym (fan_less number s o ws ∙ ap (without_box number) (saved_fan w numbers (keys_at g canvas) (raised number s) k o (W.numbered canvas) (sym (at s) ∙ is)))))
    where
      at : (s : ℕ) → slice_get (keys_at h canvas) s ≡ slice_get (keys_at g canvas) (raised number s)
      at s = ap (λ l. slice_get l s) (keys_less g h path canvas key number B) ∙ get_less (keys_at g canvas) number s

      own : (j : ℕ) → (a : IsAmong (keys_at g canvas) j) → a.0 ≡ number → j ≡ key
      own j a e = same_Some j key (sym a.1 ∙ ap (slice_get (keys_at g canvas)) e ∙ B.is)

      number_was : (k i : ℕ) → slice_get (keys_at g canvas) i ≡ Some k → number_in numbers k ≡ i
      number_was k i e = number_is numbers k i (W.numbered canvas i k e)

      number_now : (k : ℕ) → (a : IsAmong (keys_at g canvas) k) → k ≢ key → number_in numbers' k ≡ lowered number (number_in numbers k)
      number_now k a apart =
          number_is numbers' k (lowered number a.0)
          (W.renumbered canvas (lowered number a.0) k
          (at (lowered number a.0) ∙ ap (slice_get (keys_at g canvas)) (raised_on number a.0 (λ e. apart (own k a e))) ∙ a.1))
          ∙ ap (lowered number) (sym (number_was k a.0 a.1))

      stays : (k s : ℕ) → slice_get (keys_at g canvas) (raised number s) ≡ Some k → k ≢ key
      stays k s is e = raised_apart number s (B.forest.own.once canvas (raised number s) number k is (B.is ∙ ap Some (sym e)))

      same_test : (r n a j k : ℕ) → r ≢ n → (a ≡ n → j ≡ k) → (j ≡ k → a ≡ n) → (not (r == n) && not (a == n)) ≡ not (j == k)
      same_test r n a j k apart to back =
          by_test (j == k) (λ t. let e : j ≡ k = grind (arith, nat_tests) in let f : a ≡ n = back e in grind (arith, nat_tests))
          (λ t. let e : j ≢ k = λ x. grind (arith, nat_tests) in let f : a ≢ n = λ x. e (to x) in grind (arith, nat_tests))

      test : (k s j : ℕ) → slice_get (keys_at g canvas) (raised number s) ≡ Some k → IsAmong (keys_at g canvas) j
          → (not (number_in numbers k == number) && not (number_in numbers j == number)) ≡ not (j == key)
      test k s j is a =
          same_test (number_in numbers k) number (number_in numbers j) j key
          (λ e. raised_apart number s (sym (number_was k (raised number s) is) ∙ e))
          (λ e. own j a (sym (number_was j a.0 a.1) ∙ e))
          (λ e. ap (number_in numbers) e ∙ number_was key number B.is)

      along : (k o s : ℕ) (x : Hop) → slice_get (keys_at g canvas) (raised number s) ≡ Some k → IsAmong (keys_at g canvas) x.node → x.node ≢ key
          → wire_along numbers' k o x ≡ lowered_wire number (wire_along numbers k o x)
      along k o s x is a apart =
          ap (λ y. record { source = y; outlet = o; sink = number_in numbers' x.node; inlet = x.port }) (number_now k (raised number s, is) (stays k s is))
          ∙ ap (λ y. record { source = lowered number (number_in numbers k); outlet = o; sink = y; inlet = x.port }) (number_now x.node a apart)
