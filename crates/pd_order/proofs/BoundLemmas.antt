-- The looks of a mend are those of its window.
use Rattle.std.proofs.Common.{◌≡◌, ℕ, zero, suc, ◌+◌, ◌*◌, ◌<◌, ◌≤◌, ◌==◌, ◌-◌, true, false, cond, ◌⊎◌, inl, inr, List, [], ◌∷◌, length, get_or, take, drop, refl, sym, ◌∙◌, ap, subst, arith, min}
use Rattle.std.specs.Prelude.{nat_lt, Some, None, slice_get}
use Rattle.std.specs.List.{filter}
use Rattle.std.proofs.lemmas.Bool.Decides.{nat_tests}
use Rattle.std.proofs.lemmas.Option.{slice_get-get_or}
use Rattle.std.proofs.lemmas.List.{length-take, length-drop, length-take-le, take-append-drop, get_or-take, get_or-drop}
use Rattle.pd_order.proofs.Basics.{not_lt, by_test, same_node, same_test, other_node, other_test, tally-append, tally_at, at_tally, tally-take_le, total_le, missing-le_length, ltb', ltb-true', ltb-false'}
use Rattle.pd_order.proofs.RunLemmas.{not_in_front}
use Rattle.pd_order.proofs.SettleLemmas.{tally-filter}
use Rattle.pd_order.specs.Graph.{Graph, tally, missing, total, ends}
use Rattle.pd_order.specs.Work.{IsPassed, looks_on, looks_back}
use Rattle.pd_order.specs.Window.{Agree, IsWindow, standing, is_near, window_ends, IsLooked, IsWide, IsReached}

-- how often the elements of xs are in ys
met_times : (xs ys : List ℕ) → ((x : ℕ) → tally x xs ≤ 1) → total (λ x. tally x ys) xs ≤ length ys
met_times xs [] once = zero_total xs
  where
    zero_total : (xs : List ℕ) → total (λ x. 0) xs ≤ 0
    zero_total [] = omega arith
    zero_total (x ∷ xs) = let k : total (λ x. 0) xs ≤ 0 = zero_total xs in omega arith
met_times xs (y ∷ ys) once =
    let k : total (λ x. tally x ys) xs ≤ length ys = met_times xs ys once in
    let s : total (λ x. tally x (y ∷ ys)) xs ≡ tally y xs + total (λ x. tally x ys) xs = split_total xs y ys in
    let o : tally y xs ≤ 1 = once y in omega arith
  where
    split_total : (xs : List ℕ) (y : ℕ) (ys : List ℕ) → total (λ x. tally x (y ∷ ys)) xs ≡ tally y xs + total (λ x. tally x ys) xs
    split_total [] y ys = refl
    split_total (x ∷ xs) y ys =
        let k : total (λ x. tally x (y ∷ ys)) xs ≡ tally y xs + total (λ x. tally x ys) xs = split_total xs y ys in
        by_test (y == x)
        (λ t. let e : y ≡ x = same_node y x t in let u : (x == y) ≡ true = subst (λ (v : ℕ). (v == y) ≡ true) e (same_test y) in rw (t, u) (omega arith))
        (λ t. let n : y ≡ x → ⊥ = other_node y x t in let u : (x == y) ≡ false = other_test x y (λ q. n (sym q)) in rw (t, u) (omega arith))

-- a list no longer than what its elements stand for
length_by : (f g : ℕ → ℕ) (xs : List ℕ) → ((x : ℕ) → 0 < tally x xs → 1 ≤ f x + g x) → length xs ≤ total f xs + total g xs
length_by f g [] h = omega arith
length_by f g (x ∷ xs) h =
    let k : length xs ≤ total f xs + total g xs = length_by f g xs (λ y l. h y (omega arith)) in
    let o : 1 ≤ f x + g x = h x (rw (same_test x) (omega arith)) in omega arith

total_suc : (f : ℕ → ℕ) (xs : List ℕ) → total (λ x. f x + 1) xs ≡ total f xs + length xs
total_suc f [] = refl
total_suc f (x ∷ xs) = let k : total (λ x. f x + 1) xs ≡ total f xs + length xs = total_suc f xs in omega arith

total_two : (f g : ℕ → ℕ) (xs : List ℕ) → total (λ x. f x + g x) xs ≡ total f xs + total g xs
total_two f g [] = refl
total_two f g (x ∷ xs) = let k : total (λ x. f x + g x) xs ≡ total f xs + total g xs = total_two f g xs in omega arith

-- an element of the places from a to before b
in_part : (xs : List ℕ) (a b i : ℕ) → a ≤ i → i < b → i < length xs → 0 < tally (get_or xs i 0) (drop a (take b xs))
in_part xs a b i h l m =
    let e : get_or (drop a (take b xs)) (i - a) 0 ≡ get_or xs i 0 = get_or-drop a (take b xs) (i - a) 0 ∙ ap (λ (k : ℕ). get_or (take b xs) k 0) (let q : a + (i - a) ≡ i = omega arith in q) ∙ get_or-take b xs i 0 l in
    let n : length (drop a (take b xs)) ≡ length (take b xs) - a = length-drop a (take b xs) in
    let t : length (take b xs) ≡ min b (length xs) = length-take b xs in
    subst (λ (v : ℕ). 0 < tally v (drop a (take b xs))) e (tally_at (drop a (take b xs)) (i - a) (omega arith))

near_one : (g : Graph) (ws : List ℕ) (x : ℕ) → 0 < tally x ws → is_near g ws x ≡ true
near_one g ws x h = let t : (tally x ws == 0) ≡ false = other_test (tally x ws) 0 (λ e. absurd (omega arith)) in rw t refl

near_fed : (g : Graph) (ws : List ℕ) (x u : ℕ) → 0 < tally u ws → 0 < tally u (g.feeders x) → is_near g ws x ≡ true
near_fed g ws x u h f =
    let m : missing ws (g.feeders x) < length (g.feeders x) = fewer ws (g.feeders x) u h f in
    let t : nat_lt (missing ws (g.feeders x)) (length (g.feeders x)) ≡ true = lt_true (missing ws (g.feeders x)) (length (g.feeders x)) m in
    by_test (tally x ws == 0) (λ q. rw (q, t) refl) (λ q. rw q refl)
  where
    lt_true : (m n : ℕ) → m < n → nat_lt m n ≡ true
    lt_true m n h = grind (arith, nat_tests)

    fewer : (ws us : List ℕ) (u : ℕ) → 0 < tally u ws → 0 < tally u us → missing ws us < length us
    fewer ws [] u h f = absurd (omega arith)
    fewer ws (w ∷ us) u h f = by_test (w == u)
        (λ t. let e : w ≡ u = same_node w u t in let q : (tally w ws == 0) ≡ false = other_test (tally w ws) 0 (λ z. let z' : tally u ws ≡ 0 = subst (λ (v : ℕ). tally v ws ≡ 0) e z in absurd (omega arith)) in
        let l : missing ws us ≤ length us = missing-le_length ws us in rw q (omega arith))
        (λ t. let k : missing ws us < length us = fewer ws us u h (let f' : 0 < 0 + tally u us = rw t at f in omega arith) in
        by_test (tally w ws == 0) (λ q. rw q (omega arith)) (λ q. rw q (omega arith)))

-- the sum over some near nodes is at most that over all
near_total : (g : Graph) (f : ℕ → ℕ) (ws nodes xs : List ℕ) → ((x : ℕ) → tally x xs ≤ 1) → ((x : ℕ) → 0 < tally x xs → (0 < tally x nodes) × (is_near g ws x ≡ true)) → total f xs ≤ total f (filter (is_near g ws) nodes)
near_total g f ws nodes xs once h = total_le f xs (filter (is_near g ws) nodes) once
    (λ x l. let e : tally x (filter (is_near g ws) nodes) ≡ cond (is_near g ws x) (tally x nodes) 0 = tally-filter (is_near g ws) x nodes in
    let e' : tally x (filter (is_near g ws) nodes) ≡ tally x nodes = rw ((h x l).1) at e in let n : 0 < tally x nodes = (h x l).0 in omega arith)

-- the same, but for one node
near_but : (g : Graph) (f : ℕ → ℕ) (ws nodes xs : List ℕ) (v : ℕ) → ((x : ℕ) → tally x xs ≤ 1) → ((x : ℕ) → 0 < tally x xs → (v ≡ x) ⊎ ((0 < tally x nodes) × (is_near g ws x ≡ true))) → total f xs ≤ f v + total f (filter (is_near g ws) nodes)
near_but g f ws nodes xs v once h = total_le f xs (v ∷ filter (is_near g ws) nodes) once
    (λ x l. elim (h x l) [
      | inl e ↦ subst (λ (w : ℕ). 0 < tally w (v ∷ filter (is_near g ws) nodes)) e (rw (same_test v) (omega arith))
      | inr n ↦ (let e : tally x (filter (is_near g ws) nodes) ≡ cond (is_near g ws x) (tally x nodes) 0 = tally-filter (is_near g ws) x nodes in
          let e' : tally x (filter (is_near g ws) nodes) ≡ tally x nodes = rw n.1 at e in let q : 0 < tally x nodes = n.0 in omega arith)
    ])

-- the looks of a mend, in a window of the change
pub bounded : (g : Graph) (nodes old new : List ℕ) (from listed passed v before steps after a b : ℕ) (mark0 : ℕ → ℕ) → IsLooked g nodes old new from listed passed mark0 before steps after → IsWide old new from listed passed →
    ((x : ℕ) → 0 < mark0 x → v ≡ x) → (Agree old new from → ⊥) → IsWindow old new a b →
    after + before ≤ steps + 2 * (b - a) + 2 * window_ends g nodes old new a b + 2 * length (g.feeders v) + 1
bounded g nodes old new from listed passed v before steps after a b mark0 k wd only parted win =
    let ws : List ℕ = standing old new a b in
    let low : a ≤ from = not_lt from a (λ l. parted (win from (inl l))) in
    let high : wd.last < b = lt_or wd.last b (λ l. parted (wd.last_differs (win wd.last (inr l)))) in
    let lf : from ≤ wd.last = wd.last_from in
    let lp : passed ≤ wd.last + 1 = wd.last_passed in
    let ll : listed ≤ wd.last + 1 = wd.last_listed in
    let ln : listed ≤ length new = k.listed_new in
    let po : passed ≤ length old = k.passed_old in
    let T : List ℕ = take listed new in
    let W : List ℕ = drop from T in
    let P : List ℕ = drop from (take passed old) in
    let lt : length T ≡ listed = length-take-le listed new ln in
    let lw : length W ≡ length T - from = length-drop from T in
    let lpt : length (take passed old) ≡ passed = length-take-le passed old po in
    let lpp : length P ≡ length (take passed old) - from = length-drop from (take passed old) in
    let in_new : (u : ℕ) → 0 < tally u W → 0 < tally u ws = λ u h.
    let i : (i : ℕ) × (i < length W) × (get_or W i 0 ≡ u) = at_tally u W h in
    let i1 : i.0 < length W = i.1 in
    let e : get_or W i.0 0 ≡ get_or new (from + i.0) 0 = get_or-drop from T i.0 0 ∙ get_or-take listed new (from + i.0) 0 (omega arith) in
    let p : 0 < tally (get_or new (from + i.0) 0) (drop a (take b new)) = in_part new a b (from + i.0) (omega arith) (omega arith) (omega arith) in
    let p' : 0 < tally u (drop a (take b new)) = subst (λ (w : ℕ). 0 < tally w (drop a (take b new))) (sym e ∙ i.2) p in
    rw (tally-append u (drop a (take b old)) (drop a (take b new))) (omega arith) in
    let in_old : (x : ℕ) → IsPassed old from passed x → 0 < tally x ws = λ x h.
    let h1 : from ≤ h.0 = h.1 in let h2 : h.0 < passed = h.2 in
    let p : 0 < tally (get_or old h.0 0) (drop a (take b old)) = in_part old a b h.0 (omega arith) (omega arith) (omega arith) in
    let p' : 0 < tally x (drop a (take b old)) = subst (λ (w : ℕ). 0 < tally w (drop a (take b old))) h.3 p in
    rw (tally-append x (drop a (take b old)) (drop a (take b new))) (omega arith) in
    let w_once : (x : ℕ) → tally x W ≤ 1 = λ x. let s : tally x T ≡ tally x (take from T) + tally x W = ap (tally x) (sym (take-append-drop from T)) ∙ tally-append x (take from T) (drop from T) in let o : tally x T ≤ 1 = k.new_once x in omega arith in
    let w_nodes : (x : ℕ) → 0 < tally x W → 0 < tally x nodes = λ x h. k.new_nodes x (let s : tally x T ≡ tally x (take from T) + tally x W = ap (tally x) (sym (take-append-drop from T)) ∙ tally-append x (take from T) (drop from T) in omega arith) in
    let near_w : (x : ℕ) → 0 < tally x W → (0 < tally x nodes) × (is_near g ws x ≡ true) = λ x h. (w_nodes x h, near_one g ws x (in_new x h)) in
    let near_k : (x : ℕ) → 0 < tally x k.known → (v ≡ x) ⊎ ((0 < tally x nodes) × (is_near g ws x ≡ true)) = λ x h. elim (k.why x h) [
      | inl m ↦ inl (only x m)
      | inr q ↦ elim q [
        | inl p ↦ inr (k.known_nodes x h, near_one g ws x (in_old x p))
        | inr f ↦ inr (k.known_nodes x h, near_fed g ws x f.0 (in_new f.0 f.1) f.2)
      ]
    ] in
    let R : List ℕ = filter (is_near g ws) nodes in
    let fe : ℕ → ℕ = λ x. length (g.feeders x) in
    let fo : ℕ → ℕ = λ x. length (g.followers x) in
    let b1 : total fo W ≤ total fo R = near_total g fo ws nodes W w_once near_w in
    let b2 : total fe k.known ≤ fe v + total fe R = near_but g fe ws nodes k.known v k.known_once near_k in
    let s1 : total (looks_on g) W ≡ total fo W + length W = total_suc fo W in
    let s2 : total (looks_back g) k.known ≡ total fe k.known + length k.known = total_suc fe k.known in
    let s3 : total (ends g) R ≡ total fe R + total fo R = total_two fe fo R in
    let m1 : total (λ x. tally x (v ∷ P)) k.known ≤ length (v ∷ P) = met_times k.known (v ∷ P) k.known_once in
    let m2 : length k.known ≤ total fe k.known + total (λ x. tally x (v ∷ P)) k.known = length_by fe (λ x. tally x (v ∷ P)) k.known
    (λ x h. elim (k.why x h) [
      | inl m ↦ (let e : v ≡ x = only x m in let q : 0 < tally x (v ∷ P) = subst (λ (w : ℕ). 0 < tally w (v ∷ P)) e (rw (same_test v) (omega arith)) in omega arith)
      | inr q ↦ elim q [
        | inl p ↦ (let p1 : from ≤ p.0 = p.1 in let p2 : p.0 < passed = p.2 in
            let i : 0 < tally (get_or old p.0 0) P = in_part old from passed p.0 p1 p2 (omega arith) in
            let i' : 0 < tally x P = subst (λ (w : ℕ). 0 < tally w P) p.3 i in omega arith)
        | inr f ↦ (let l : 0 < length (g.feeders x) = there_length f.0 (g.feeders x) f.2 in omega arith)
      ]
    ]) in
    let lk : after + before ≡ steps + total (looks_on g) W + total (looks_back g) k.known = k.looks in
    omega arith
  where
    there_length : (x : ℕ) (xs : List ℕ) → 0 < tally x xs → 0 < length xs
    there_length x [] h = absurd (omega arith)
    there_length x (y ∷ xs) h = omega arith

    lt_or : (i n : ℕ) → (n ≤ i → ⊥) → i < n
    lt_or i n h = grind arith

pub agree_places : (old new : List ℕ) (i : ℕ) → Agree old new i → i < length old → i < length new → get_or old i 0 ≡ get_or new i 0
agree_places old new i e a b = let q : Some (get_or old i 0) ≡ Some (get_or new i 0) = sym (slice_get-get_or old i 0 a) ∙ e ∙ slice_get-get_or new i 0 b in cc

pub nothing_past : (xs : List ℕ) (i : ℕ) → length xs ≤ i → slice_get xs i ≡ None
nothing_past [] i h = refl
nothing_past (x ∷ xs) zero h = absurd (omega arith)
nothing_past (x ∷ xs) (suc i) h = nothing_past xs i (omega arith)

pub longer_differs : (old new : List ℕ) (i : ℕ) → length old ≤ i → i < length new → Agree old new i → ⊥
longer_differs old new i a b e = let q : None ≡ Some (get_or new i 0) = sym (nothing_past old i a) ∙ e ∙ slice_get-get_or new i 0 b in cc

pub shorter_differs : (old new : List ℕ) (i : ℕ) → i < length old → length new ≤ i → Agree old new i → ⊥
shorter_differs old new i a b e = let q : Some (get_or old i 0) ≡ None = sym (slice_get-get_or old i 0 a) ∙ e ∙ nothing_past new i b in cc

-- the run came no further than to a place where the chains differ
pub wide_is : (g : Graph) (nodes old new : List ℕ) (from before steps after : ℕ) (was mark0 : ℕ → ℕ) (k : IsReached g nodes old new from was mark0 before steps after) →
    ((x : ℕ) → 0 < tally x nodes → was x < length old → get_or old (was x) 0 ≡ x) → ((i : ℕ) → i < length old → was (get_or old i 0) ≡ i) → from ≤ length old →
    ((x : ℕ) → tally x new ≤ 1) → ((x : ℕ) → 0 < tally x new → 0 < tally x nodes) → (length new ≡ length old → (x : ℕ) → 0 < tally x new → 0 < tally x old) → (Agree old new from → ⊥) → IsWide old new from k.listed k.passed
wide_is g nodes old new from before steps after was mark0 k places at fo once inn sub parted = elim k.reach [
  | inl m ↦ (let m0 : k.listed ≤ length old = m.0 in let m1 : k.passed ≤ k.listed = m.1 in let m2 : from < k.listed = m.2 in
      elim m.3 [
        | inl e ↦ record { last = from; last_from = omega arith; last_passed = omega arith; last_listed = omega arith; last_differs = λ h. h }
        | inr w ↦ (let w2 : was w.0 + 1 ≡ k.listed = w.2 in
            let ln : k.listed ≤ length new = k.looked.listed_new in
            record {
              last = k.listed - 1;
              last_from = omega arith;
              last_passed = omega arith;
              last_listed = omega arith;
              last_differs = λ h.
                  let e : get_or old (k.listed - 1) 0 ≡ get_or new (k.listed - 1) 0 = agree_places old new (k.listed - 1) h (omega arith) (omega arith) in
                  let nn : 0 < tally w.0 nodes = inn w.0 (let t : tally w.0 (take (k.listed - 1) new) ≤ tally w.0 new = tally-take_le w.0 (k.listed - 1) new in let w1 : 0 < tally w.0 (take (k.listed - 1) new) = w.1 in omega arith) in
                  let p : get_or old (was w.0) 0 ≡ w.0 = places w.0 nn (omega arith) in
                  let q : get_or new (k.listed - 1) 0 ≡ w.0 = sym e ∙ ap (λ (i : ℕ). get_or old i 0) (let z : k.listed - 1 ≡ was w.0 = omega arith in z) ∙ p in
                  let z : tally (get_or new (k.listed - 1) 0) (take (k.listed - 1) new) ≡ 0 = not_in_front new (k.listed - 1) (k.listed - 1) once (omega arith) (omega arith) in
                  let z' : tally w.0 (take (k.listed - 1) new) ≡ 0 = subst (λ (v : ℕ). tally v (take (k.listed - 1) new) ≡ 0) q z in
                  absurd (let w1 : 0 < tally w.0 (take (k.listed - 1) new) = w.1 in omega arith);
            })
      ])
  | inr m ↦ (let m0 : k.passed ≡ length old = m.0 in let m1 : k.listed ≡ length new = m.1 in let fl : from ≤ k.listed = k.looked.from_listed in
      by_test (ltb' (length old) (length new))
      (λ t. let l : length old < length new = ltb-true' (length old) (length new) t in
      record {
        last = length new - 1;
        last_from = omega arith;
        last_passed = omega arith;
        last_listed = omega arith;
        last_differs = λ h. absurd (longer_differs old new (length new - 1) (omega arith) (omega arith) h);
      })
      (λ t. let l : length new ≤ length old = ltb-false' (length old) (length new) t in
      by_test (ltb' (length new) (length old))
      (λ u. let l2 : length new < length old = ltb-true' (length new) (length old) u in
      record {
        last = length old - 1;
        last_from = omega arith;
        last_passed = omega arith;
        last_listed = omega arith;
        last_differs = λ h. absurd (shorter_differs old new (length old - 1) (omega arith) (omega arith) h);
      })
      (λ u. let l2 : length old ≤ length new = ltb-false' (length new) (length old) u in
      elim m.2 [
        | inl e ↦ absurd (parted (nothing_past old from (omega arith) ∙ sym (nothing_past new from (omega arith))))
        | inr w ↦ absurd (let w2 : k.listed ≤ was w.0 = w.2 in
            let s : 0 < tally w.0 old = sub (omega arith) w.0 w.1 in
            let i : (i : ℕ) × (i < length old) × (get_or old i 0 ≡ w.0) = at_tally w.0 old s in
            let i1 : i.0 < length old = i.1 in
            let q : was w.0 ≡ i.0 = subst (λ (v : ℕ). was v ≡ i.0) i.2 (at i.0 i.1) in omega arith)
      ])))
]
