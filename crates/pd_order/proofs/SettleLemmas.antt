-- The stuck list, and the end of a run.
use Rattle.std.proofs.Common.{◌≡◌, ℕ, zero, suc, ◌+◌, ◌<◌, ◌≤◌, ◌==◌, Bool, true, false, cond, List, [], ◌∷◌, ◌++◌, length, get_or, take, drop, refl, sym, ◌∙◌, ap, subst, arith, append_assoc}
use Rattle.std.specs.List.{filter}
use Rattle.std.proofs.lemmas.List.{drop-drop, take-append-drop, take_more, drop_more, take_at, drop_at, length-take-le}
use Rattle.std.proofs.lemmas.List.Elements.{filter-append}
use Rattle.pd_order.proofs.Basics.{by_test, same_node, same_test, other_node, other_test, tally-append, tally_at, length_le, tally_more}
use Rattle.pd_order.proofs.WorkLemmas.{put_at, put_other}
use Rattle.pd_order.specs.Graph.{Graph, tally, AreByRank, IsLeast}
use Rattle.std.specs.Prelude.{nat_lt}
use Rattle.pd_order.specs.Spots.{put, nowhere}

le_refl' : (n : ℕ) → n ≤ n
le_refl' n = omega arith

pub tally-filter : (p : ℕ → Bool) (x : ℕ) (xs : List ℕ) → tally x (filter p xs) ≡ cond (p x) (tally x xs) 0
tally-filter p x [] = by_test (p x) (λ t. rw t refl) (λ t. rw t refl)
tally-filter p x (y ∷ xs) = by_test (y == x)
    (λ e. let s : y ≡ x = same_node y x e in
    let k : tally x (filter p xs) ≡ cond (p x) (tally x xs) 0 = tally-filter p x xs in
    by_test (p y)
    (λ t. let t' : p x ≡ true = rw (← s) t in let k' : tally x (filter p xs) ≡ tally x xs = rw t' at k in rw (t, t', e, k') refl)
    (λ t. let t' : p x ≡ false = rw (← s) t in let k' : tally x (filter p xs) ≡ 0 = rw t' at k in rw (t, t', k') refl))
    (λ e. let k : tally x (filter p xs) ≡ cond (p x) (tally x xs) 0 = tally-filter p x xs in
    by_test (p y)
    (λ t. by_test (p x) (λ u. let k' : tally x (filter p xs) ≡ tally x xs = rw u at k in rw (t, u, e, k') refl)
    (λ u. let k' : tally x (filter p xs) ≡ 0 = rw u at k in rw (t, u, e, k') (omega arith)))
    (λ t. by_test (p x) (λ u. let k' : tally x (filter p xs) ≡ tally x xs = rw u at k in rw (t, u, e, k') (omega arith))
    (λ u. let k' : tally x (filter p xs) ≡ 0 = rw u at k in rw (t, u, k') refl)))

least_from : (g : Graph) (x y : ℕ) (ys : List ℕ) → g.rank x < g.rank y → IsLeast g y ys → IsLeast g x ys
least_from g x y [] h l = tt
least_from g x y (z ∷ ys) h l = ((let a : g.rank y < g.rank z = l.0 in omega arith), least_from g x y ys h l.1)

least_insert : (g : Graph) (y x : ℕ) (ys : List ℕ) (i : ℕ) → IsLeast g y ys → g.rank y < g.rank x → IsLeast g y (take i ys ++ x ∷ drop i ys)
least_insert g y x [] zero l h = (h, tt)
least_insert g y x [] (suc i) l h = (h, tt)
least_insert g y x (z ∷ ys) zero l h = (h, l)
least_insert g y x (z ∷ ys) (suc i) l h = (l.0, least_insert g y x ys i l.1 h)

pub by_rank_insert : (g : Graph) (x : ℕ) (ys : List ℕ) (i : ℕ) → AreByRank g ys → i ≤ length ys →
    ((k : ℕ) → k < i → g.rank (get_or ys k 0) < g.rank x) → (i < length ys → g.rank x < g.rank (get_or ys i 0)) → AreByRank g (take i ys ++ x ∷ drop i ys)
by_rank_insert g x [] zero a l b c = (tt, tt)
by_rank_insert g x [] (suc i) a l b c = absurd (omega arith)
by_rank_insert g x (y ∷ ys) zero a l b c = let h : g.rank x < g.rank y = c (omega arith) in ((h, least_from g x y ys h a.0), a)
by_rank_insert g x (y ∷ ys) (suc i) a l b c = (
  least_insert g y x ys i a.0 (b 0 (omega arith)),
  by_rank_insert g x ys i a.1 (omega arith) (λ k h. b (suc k) (omega arith)) (λ h. c (omega arith)),
)

pub tally-insert : (x y : ℕ) (ys : List ℕ) (i : ℕ) → tally x (take i ys ++ y ∷ drop i ys) ≡ tally x (y ∷ ys)
tally-insert x y ys i =
    let a : tally x (take i ys ++ y ∷ drop i ys) ≡ tally x (take i ys) + tally x (y ∷ drop i ys) = tally-append x (take i ys) (y ∷ drop i ys) in
    let b : tally x ys ≡ tally x (take i ys) + tally x (drop i ys) = ap (tally x) (sym (take-append-drop i ys)) ∙ tally-append x (take i ys) (drop i ys) in
    omega arith

least_filter : (g : Graph) (p : ℕ → Bool) (x : ℕ) (ys : List ℕ) → IsLeast g x ys → IsLeast g x (filter p ys)
least_filter g p x [] l = tt
least_filter g p x (y ∷ ys) l = by_test (p y) (λ t. rw t (l.0, least_filter g p x ys l.1)) (λ t. rw t (least_filter g p x ys l.1))

pub by_rank_filter : (g : Graph) (p : ℕ → Bool) (ys : List ℕ) → AreByRank g ys → AreByRank g (filter p ys)
by_rank_filter g p [] a = tt
by_rank_filter g p (y ∷ ys) a = by_test (p y) (λ t. rw t (least_filter g p y ys a.0, by_rank_filter g p ys a.1)) (λ t. rw t (by_rank_filter g p ys a.1))

pub strictly : (r : ℕ → ℕ) (ys : List ℕ) (i x : ℕ) → ((z : ℕ) → 0 < tally z ys → r z ≡ r x → z ≡ x) → tally x ys ≡ 0 → (i < length ys → r x ≤ r (get_or ys i 0)) → i < length ys → r x < r (get_or ys i 0)
strictly r ys i x apart fresh h l = let a : r x ≤ r (get_or ys i 0) = h l in let m : 0 < tally (get_or ys i 0) ys = tally_at ys i l in
    by_test (r (get_or ys i 0) == r x)
    (λ t. let e : get_or ys i 0 ≡ x = apart (get_or ys i 0) m (same_node (r (get_or ys i 0)) (r x) t) in let m' : 0 < tally x ys = subst (λ (v : ℕ). 0 < tally v ys) e m in absurd (omega arith))
    (λ t. let n : r (get_or ys i 0) ≡ r x → ⊥ = other_node (r (get_or ys i 0)) (r x) t in omega arith)

-- the sweep passes over one, or takes it out
pub swept_out : (p : ℕ → Bool) (xs ys : List ℕ) (i : ℕ) → i < length xs → p (get_or xs i 0) ≡ false → ys ≡ take i xs ++ drop (i + 1) xs →
    take i ys ++ filter p (drop i ys) ≡ take i xs ++ filter p (drop i xs)
swept_out p xs ys i l h e =
    let a : take i ys ≡ take i xs = ap (take i) e ∙ take_at (take i xs) (drop (i + 1) xs) i (length-take-le i xs (omega arith)) in
    let b : drop i ys ≡ drop (i + 1) xs = ap (drop i) e ∙ drop_at (take i xs) (drop (i + 1) xs) i (length-take-le i xs (omega arith)) in
    let d : filter p (drop i xs) ≡ filter p (drop (i + 1) xs) = ap (filter p) (drop_more xs i 0 l) ∙ rw h refl in
    rw (a, b, d) refl

pub swept_on : (p : ℕ → Bool) (xs : List ℕ) (i : ℕ) → i < length xs → p (get_or xs i 0) ≡ true →
    take (i + 1) xs ++ filter p (drop (i + 1) xs) ≡ take i xs ++ filter p (drop i xs)
swept_on p xs i l h =
    let a : take (i + 1) xs ≡ take i xs ++ get_or xs i 0 ∷ [] = take_more xs i 0 l in
    let d : filter p (drop i xs) ≡ get_or xs i 0 ∷ filter p (drop (i + 1) xs) = ap (filter p) (drop_more xs i 0 l) ∙ rw h refl in
    rw (a, d) (append_assoc (take i xs) (get_or xs i 0 ∷ []) (filter p (drop (i + 1) xs)))

drop_one_le : (x : ℕ) (ys : List ℕ) → tally x (drop 1 ys) ≤ tally x ys
drop_one_le x [] = omega arith
drop_one_le x (y ∷ ys) = omega arith

pub taken_out_there : (xs ys : List ℕ) (i x : ℕ) → ys ≡ take i xs ++ drop (i + 1) xs → 0 < tally x ys → 0 < tally x xs
taken_out_there xs ys i x e h =
    let a : tally x ys ≡ tally x (take i xs) + tally x (drop (i + 1) xs) = ap (tally x) e ∙ tally-append x (take i xs) (drop (i + 1) xs) in
    let b : tally x xs ≡ tally x (take i xs) + tally x (drop i xs) = ap (tally x) (sym (take-append-drop i xs)) ∙ tally-append x (take i xs) (drop i xs) in
    let d : tally x (drop (i + 1) xs) ≤ tally x (drop i xs) = subst (λ (ys : List ℕ). tally x ys ≤ tally x (drop i xs)) (drop-drop 1 i xs) (drop_one_le x (drop i xs)) in omega arith

-- one more of a list is told of
pub one_more : (xs : List ℕ) (i x : ℕ) → i < length xs → ((get_or xs i 0 ≡ x → ⊥) → tally x (take (i + 1) xs) ≡ tally x (take i xs)) × (get_or xs i 0 ≡ x → 0 < tally x (take (i + 1) xs))
one_more xs i x l =
    let m : tally x (take i xs) + cond (get_or xs i 0 == x) 1 0 ≡ tally x (take (i + 1) xs) = tally_more x xs i (get_or xs i 0) l refl in (
      λ n. let q : tally x (take i xs) + 0 ≡ tally x (take (i + 1) xs) = subst (λ (b : Bool). tally x (take i xs) + cond b 1 0 ≡ tally x (take (i + 1) xs)) (other_test (get_or xs i 0) x n) m in omega arith,
      λ e. let q : tally x (take i xs) + 1 ≡ tally x (take (i + 1) xs) = subst (λ (b : Bool). tally x (take i xs) + cond b 1 0 ≡ tally x (take (i + 1) xs)) (subst (λ (v : ℕ). (get_or xs i 0 == v) ≡ true) e (same_test (get_or xs i 0))) m in omega arith,
    )

pub left_same : (mk mk' pl0 pl : ℕ → ℕ) (xs : List ℕ) (i y : ℕ) → ((x : ℕ) → mk' x ≡ mk x) →
    ((x : ℕ) → 0 < tally x (take i xs) → pl x ≡ cond (nat_lt 1 (mk x)) nowhere (pl0 x)) → ((x : ℕ) → tally x (take i xs) ≡ 0 → pl x ≡ pl0 x) →
    cond (nat_lt 1 (mk' y)) nowhere (pl y) ≡ cond (nat_lt 1 (mk y)) nowhere (pl0 y)
left_same mk mk' pl0 pl xs i y e a b = rw (e y) (by_test (nat_lt 1 (mk y)) (λ t. rw t refl)
    (λ t. by_test (tally y (take i xs) == 0)
    (λ u. rw t (b y (same_node (tally y (take i xs)) 0 u)))
    (λ u. let n : tally y (take i xs) ≡ 0 → ⊥ = other_node (tally y (take i xs)) 0 u in let q : pl y ≡ cond (nat_lt 1 (mk y)) nowhere (pl0 y) = a y (omega arith) in rw t (rw t at q))))

-- a walk along a list writes v into f at each of it
pub put_listed : (f0 f f' v : ℕ → ℕ) (xs : List ℕ) (i : ℕ) → i < length xs →
    ((x : ℕ) → f' x ≡ put f (get_or xs i 0) (v (get_or xs i 0)) x) →
    ((x : ℕ) → 0 < tally x (take i xs) → f x ≡ v x) → (x : ℕ) → 0 < tally x (take (i + 1) xs) → f' x ≡ v x
put_listed f0 f f' v xs i l e h x t = by_test (get_or xs i 0 == x)
    (λ q. let s : get_or xs i 0 ≡ x = same_node (get_or xs i 0) x q in
    subst (λ (w : ℕ). f' w ≡ v w) s (e (get_or xs i 0) ∙ put_at f (get_or xs i 0) (v (get_or xs i 0))))
    (λ q. let n : get_or xs i 0 ≡ x → ⊥ = other_node (get_or xs i 0) x q in
    e x ∙ put_other f (get_or xs i 0) (v (get_or xs i 0)) x n ∙ h x (let m : tally x (take (i + 1) xs) ≡ tally x (take i xs) = (one_more xs i x l).0 n in omega arith))

pub put_others : (f0 f f' v : ℕ → ℕ) (xs : List ℕ) (i : ℕ) → i < length xs →
    ((x : ℕ) → f' x ≡ put f (get_or xs i 0) (v (get_or xs i 0)) x) →
    ((x : ℕ) → tally x (take i xs) ≡ 0 → f x ≡ f0 x) → (x : ℕ) → tally x (take (i + 1) xs) ≡ 0 → f' x ≡ f0 x
put_others f0 f f' v xs i l e h x t =
    let n : get_or xs i 0 ≡ x → ⊥ = λ q. let k : 0 < tally x (take (i + 1) xs) = (one_more xs i x l).1 q in absurd (omega arith) in
    e x ∙ put_other f (get_or xs i 0) (v (get_or xs i 0)) x n ∙ h x (let m : tally x (take (i + 1) xs) ≡ tally x (take i xs) = (one_more xs i x l).0 n in omega arith)

pub filtered_more : (p : ℕ → Bool) (xs : List ℕ) (i x : ℕ) → i < length xs → tally x (filter p (take (i + 1) xs)) ≡ tally x (filter p (take i xs)) + tally x (filter p (get_or xs i 0 ∷ []))
filtered_more p xs i x l = ap (λ (ys : List ℕ). tally x (filter p ys)) (take_more xs i 0 l) ∙ ap (tally x) (filter-append p (take i xs) (get_or xs i 0 ∷ [])) ∙ tally-append x (filter p (take i xs)) (filter p (get_or xs i 0 ∷ []))

pub filtered_le : (p : ℕ → Bool) (xs : List ℕ) (i x : ℕ) → i < length xs → tally x (filter p (take i xs)) + tally x (filter p (get_or xs i 0 ∷ [])) ≤ tally x (filter p xs)
filtered_le p xs i x l =
    let m : tally x (filter p (take (i + 1) xs)) ≡ tally x (filter p (take i xs)) + tally x (filter p (get_or xs i 0 ∷ [])) = filtered_more p xs i x l in
    let s : tally x (filter p xs) ≡ tally x (filter p (take (i + 1) xs)) + tally x (filter p (drop (i + 1) xs)) =
    ap (λ (ys : List ℕ). tally x (filter p ys)) (sym (take-append-drop (i + 1) xs)) ∙ ap (tally x) (filter-append p (take (i + 1) xs) (drop (i + 1) xs)) ∙ tally-append x (filter p (take (i + 1) xs)) (filter p (drop (i + 1) xs)) in
    omega arith

-- room for one more
pub room_for : (y : ℕ) (xs ns : List ℕ) → ((x : ℕ) → tally x ns ≤ 1) → ((x : ℕ) → tally x (y ∷ xs) ≤ tally x ns) → length xs < length ns
room_for y xs ns once h =
    let k : length (y ∷ xs) ≤ length ns = length_le (y ∷ xs) ns (λ x. let a : tally x (y ∷ xs) ≤ tally x ns = h x in let b : tally x ns ≤ 1 = once x in omega arith)
    (λ x l. let a : tally x (y ∷ xs) ≤ tally x ns = h x in omega arith) in omega arith

pub get_or_same : (xs : List ℕ) (i x : ℕ) → x ≡ get_or xs i x → i < length xs → get_or xs i 0 ≡ x
get_or_same [] i x e l = absurd (omega arith)
get_or_same (y ∷ xs) zero x e l = sym e
get_or_same (y ∷ xs) (suc i) x e l = get_or_same xs i x e (omega arith)
