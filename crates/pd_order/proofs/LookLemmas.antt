-- The looks of a mend against its window.
use Rattle.std.proofs.Common.{◌≡◌, ℕ, zero, suc, ◌+◌, ◌*◌, ◌-◌, ◌<◌, ◌≤◌, ◌==◌, Bool, true, false, cond, List, [], ◌∷◌, length, get_or, take, refl, sym, ◌∙◌, subst, arith}
use Rattle.std.specs.Prelude.{nat_lt}
use Rattle.std.specs.List.{filter}
use Rattle.std.proofs.lemmas.Bool.Decides.{nat_tests}
use Rattle.std.proofs.lemmas.List.{take_all}
use Rattle.pd_order.proofs.Basics.{by_test, same_node, other_node, missing_le, ltb', ltb-true', ltb-false'}
use Rattle.pd_order.proofs.RunLemmas.{front_at}
use Rattle.pd_order.proofs.OrderLemmas.{next_at, next_once, chain_once, chain_inside, front_le}
use Rattle.pd_order.proofs.EndLemmas.{same_sets}
use Rattle.pd_order.proofs.MendLemmas.{ready_less}
use Rattle.pd_order.proofs.CutLemmas.{fed_next, ready_without'}
use Rattle.pd_order.proofs.BoundLemmas.{bounded, wide_is, agree_places, shorter_differs, longer_differs}
use Rattle.pd_order.specs.Graph.{Graph, tally, missing, total, ends, cut_wire, add_wire, IsLawful, IsReady, IsNext, AreNext, IsOrder}
use Rattle.pd_order.specs.Work.{IsOld, IsStart}
use Rattle.pd_order.specs.Window.{Agree, IsWindow, IsReached, standing, is_near, window_ends}

-- a chain stays within one that can't go on, where what is ready for it is ready there
chain_within : (g0 g : Graph) (ns new old : List ℕ) → AreNext g ns [] new → ((x : ℕ) → IsReady g0 ns old x → ⊥) → ((T : List ℕ) (y : ℕ) → IsReady g ns T y → IsReady g0 ns T y) →
    (i : ℕ) → i ≤ length new → (x : ℕ) → 0 < tally x (take i new) → 0 < tally x old
chain_within g0 g ns new old a ended back zero l x h = absurd (omega arith)
chain_within g0 g ns new old a ended back (suc i) l x h =
    let f : (j : ℕ) × (j < suc i) × (j < length new) × (get_or new j 0 ≡ x) = front_at x new (suc i) h in
    let j : ℕ = f.0 in
    let j1 : j < suc i = f.1 in
    by_test (tally x old == 0)
    (λ t. let z : tally x old ≡ 0 = same_node (tally x old) 0 t in
    let n : IsNext g ns (take j new) (get_or new j 0) = next_at g ns new j a f.2 in
    let r : IsReady g0 ns (take j new) (get_or new j 0) = back (take j new) (get_or new j 0) n.ready in
    let r' : IsReady g0 ns (take j new) x = subst (λ (v : ℕ). IsReady g0 ns (take j new) v) f.3 r in
    let m : missing old (g0.feeders x) ≤ missing (take j new) (g0.feeders x) = missing_le (take j new) old (g0.feeders x)
    (λ u _ q. chain_within g0 g ns new old a ended back i (omega arith) u (front_le new j i u (omega arith) q)) in
    let f0 : missing (take j new) (g0.feeders x) ≡ 0 = r'.fed in
    absurd (ended x (record { node = r'.node; unlisted = z; fed = omega arith })))
    (λ t. let q : tally x old ≡ 0 → ⊥ = other_node (tally x old) 0 t in omega arith)

pub within_all : (g0 g : Graph) (ns new old : List ℕ) → AreNext g ns [] new → ((x : ℕ) → IsReady g0 ns old x → ⊥) → ((T : List ℕ) (y : ℕ) → IsReady g ns T y → IsReady g0 ns T y) → (x : ℕ) → 0 < tally x new → 0 < tally x old
within_all g0 g ns new old a ended back x h = chain_within g0 g ns new old a ended back (length new) (omega arith) x (subst (λ (l : List ℕ). 0 < tally x l) (sym (take_all (length new) new (omega arith))) h)

pub add_looks : (g : Graph) (s v : ℕ) (ns old new stuck stuck' : List ℕ) (from before steps after a b : ℕ) (was mark0 : ℕ → ℕ) → IsOrder (cut_wire g s v) ns old stuck → IsOrder g ns new stuck' → IsOld g ns old from was mark0 →
    ((x : ℕ) → 0 < mark0 x → v ≡ x) → from < length old → get_or old from 0 ≡ v → 0 < missing (take from old) (g.feeders v) → IsReached g ns old new from was mark0 before steps after → IsWindow old new a b →
    after ≤ steps + 4 * ((b - a) + window_ends g ns old new a b) + 4 * ends g v + 8
add_looks g s v ns old new stuck stuck' from before steps after a b was mark0 o n od only l e held k win =
    let parted : Agree old new from → ⊥ = λ h. by_test (ltb' from (length new))
    (λ t. let ln : from < length new = ltb-true' from (length new) t in
    let q : get_or new from 0 ≡ v = sym (agree_places old new from h l ln) ∙ e in
    let x : IsNext g ns (take from new) (get_or new from 0) = next_at g ns new from n.listed ln in
    let f : missing (take from new) (g.feeders (get_or new from 0)) ≡ 0 = x.ready.fed in
    let f' : missing (take from old) (g.feeders v) ≡ 0 = subst (λ (w : ℕ). missing (take from old) (g.feeders w) ≡ 0) q (subst (λ (T : List ℕ). missing T (g.feeders (get_or new from 0)) ≡ 0) k.front f) in
    absurd (omega arith))
    (λ t. shorter_differs old new from l (ltb-false' from (length new) t) h) in
    let wd = wide_is g ns old new from before steps after was mark0 k od.old_places od.old_at (omega arith) (chain_once g ns new n.listed) (λ x h. chain_inside g ns new x n.listed h)
    (λ _ x h. within_all (cut_wire g s v) g ns new old n.listed o.ended (λ T y r. ready_less g s v ns T y r) x h) parted in
    let bd : after + before ≤ steps + 2 * (b - a) + 2 * window_ends g ns old new a b + 2 * length (g.feeders v) + 1 =
    bounded g ns old new from k.listed k.passed v before steps after a b mark0 k.looked wd only parted win in
    omega arith

pub cut_looks : (g : Graph) (s v : ℕ) (ns old new stuck stuck' : List ℕ) (from before steps after a b : ℕ) (was mark0 : ℕ → ℕ) → IsLawful g ns → IsOrder (add_wire g s v) ns old stuck → IsOrder g ns new stuck' → IsOld g ns old from was mark0 →
    IsStart g old v from → 0 < tally v ns → ((x : ℕ) → 0 < mark0 x → v ≡ x) → ((from < length old) × (get_or old from 0 ≡ v) → ⊥) → IsReached g ns old new from was mark0 before steps after → IsWindow old new a b →
    after + before ≤ steps + 2 * (b - a) + 2 * window_ends g ns old new a b + 2 * length (g.feeders v) + 1
cut_looks g s v ns old new stuck stuck' from before steps after a b was mark0 law o n od st vn only apart k win =
    let low : from ≤ length old = st.low in
    let fv : IsNext g ns (take from old) v = fed_next g s v ns old stuck from o st vn in
    let has : from < length new = lt_or from (length new) (λ h.
    let t : take from new ≡ new = take_all from new h in
    let e : new ≡ take from old = sym t ∙ k.front in
    n.ended v (subst (λ (T : List ℕ). IsReady g ns T v) (sym e) fv.ready)) in
    let x : IsNext g ns (take from new) (get_or new from 0) = next_at g ns new from n.listed has in
    let q : get_or new from 0 ≡ v = next_once g ns (take from old) (get_or new from 0) v law (subst (λ (T : List ℕ). IsNext g ns T (get_or new from 0)) k.front x) fv in
    let parted : Agree old new from → ⊥ = λ h. by_test (ltb' from (length old))
    (λ t. let l : from < length old = ltb-true' from (length old) t in apart (l, agree_places old new from h l has ∙ q))
    (λ t. longer_differs old new from (ltb-false' from (length old) t) has h) in
    let sub : (x : ℕ) → 0 < tally x old → 0 < tally x new = within_all g (add_wire g s v) ns old new o.listed n.ended (λ T y r. ready_without' g s v ns T y r) in
    let wd = wide_is g ns old new from before steps after was mark0 k od.old_places od.old_at low (chain_once g ns new n.listed) (λ x h. chain_inside g ns new x n.listed h)
    (λ e x h. let sm : tally x old ≡ tally x new = same_sets old new (chain_once (add_wire g s v) ns old o.listed) (chain_once g ns new n.listed) sub (omega arith) x in omega arith) parted in
    bounded g ns old new from k.listed k.passed v before steps after a b mark0 k.looked wd only parted win
  where
    lt_or : (i n : ℕ) → (n ≤ i → ⊥) → i < n
    lt_or i n h = grind arith

-- with the wire there are no fewer wire ends
add_ends : (g : Graph) (s v x : ℕ) → ends g x ≤ ends (add_wire g s v) x
add_ends g s v x = by_test (x == v)
    (λ t. by_test (x == s) (λ u. rw (t, u) (omega arith)) (λ u. rw (t, u) (omega arith)))
    (λ t. by_test (x == s) (λ u. rw (t, u) (omega arith)) (λ u. rw (t, u) (omega arith)))

lt_true : (m n : ℕ) → m < n → nat_lt m n ≡ true
lt_true m n h = grind (arith, nat_tests)

lt_less : (m n : ℕ) → nat_lt m n ≡ true → m < n
lt_less m n h = grind (arith, nat_tests)

near_more : (g : Graph) (s v : ℕ) (ws : List ℕ) (x : ℕ) → is_near g ws x ≡ true → is_near (add_wire g s v) ws x ≡ true
near_more g s v ws x h = by_test (tally x ws == 0)
    (λ t. let h' : nat_lt (missing ws (g.feeders x)) (length (g.feeders x)) ≡ true = rw t at h in
    let l : missing ws (g.feeders x) < length (g.feeders x) = lt_less (missing ws (g.feeders x)) (length (g.feeders x)) h' in
    by_test (x == v)
    (λ u. let l' : missing ws (s ∷ g.feeders x) < length (s ∷ g.feeders x) = one_more ws (g.feeders x) s l in
    let q : nat_lt (missing ws (s ∷ g.feeders x)) (length (s ∷ g.feeders x)) ≡ true = lt_true (missing ws (s ∷ g.feeders x)) (length (s ∷ g.feeders x)) l' in rw (t, u) q)
    (λ u. rw (t, u) h'))
    (λ t. rw t refl)
  where
    one_more : (ws us : List ℕ) (s : ℕ) → missing ws us < length us → missing ws (s ∷ us) < length (s ∷ us)
    one_more ws us s l = by_test (tally s ws == 0) (λ q. rw q (omega arith)) (λ q. rw q (omega arith))

kept_le : (f f' : ℕ → ℕ) (p q : Bool) (xs ys : List ℕ) (x : ℕ) → (p ≡ true → q ≡ true) → f x ≤ f' x → total f xs ≤ total f' ys → total f (cond p (x ∷ xs) xs) ≤ total f' (cond q (x ∷ ys) ys)
kept_le f f' true true xs ys x h a b = omega arith
kept_le f f' true false xs ys x h a b = absurd (let e : false ≡ true = h refl in cc)
kept_le f f' false true xs ys x h a b = omega arith
kept_le f f' false false xs ys x h a b = b

pub near_ends : (g : Graph) (s v : ℕ) (ws ns : List ℕ) → total (ends g) (filter (is_near g ws) ns) ≤ total (ends (add_wire g s v)) (filter (is_near (add_wire g s v) ws) ns)
near_ends g s v ws [] = omega arith
near_ends g s v ws (x ∷ ns) = kept_le (ends g) (ends (add_wire g s v)) (is_near g ws x) (is_near (add_wire g s v) ws x) (filter (is_near g ws) ns) (filter (is_near (add_wire g s v) ws) ns) x
    (near_more g s v ws x) (add_ends g s v x) (near_ends g s v ws ns)

-- the looks of a cut mend, counted in the graph with the wire
pub cut_total : (g : Graph) (s v : ℕ) (ns old new : List ℕ) (a b start steps after : ℕ) → steps ≤ start + 2 * length (g.feeders v) + 3 →
    after ≤ steps + 2 * (b - a) + 2 * window_ends g ns old new a b + 2 * length (g.feeders v) + 1 →
    after ≤ start + 4 * ((b - a) + window_ends (add_wire g s v) ns old new a b) + 4 * ends (add_wire g s v) v + 8
cut_total g s v ns old new a b start steps after h k =
    let e : window_ends g ns old new a b ≤ window_ends (add_wire g s v) ns old new a b = near_ends g s v (standing old new a b) ns in
    let d : ends g v ≤ ends (add_wire g s v) v = add_ends g s v v in
    omega arith
