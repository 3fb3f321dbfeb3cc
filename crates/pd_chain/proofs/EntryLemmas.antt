-- What stands under a key.
use Rattle.std.proofs.Common.{◌≡◌, ℕ, zero, suc, ◌+◌, ◌<◌, ◌≤◌, ◌==◌, true, false, cond, List, [], ◌∷◌, length, get_or, ltb, ltb-true, ltb-false, refl, sym, ◌∙◌, ap, arith}
use Rattle.std.specs.Prelude.{sum_by, IsPermutation}
use Rattle.std.proofs.lemmas.List.Sums.{sum_by-cons}
use Rattle.std.proofs.lemmas.List.Sorted.{sum_by-IsPermutation}
use Rattle.pd_order.specs.Graph.{tally}
use Rattle.pd_order.proofs.Basics.{by_test, same_test, other_node, other_test}
use Rattle.pd_chain.specs.declared.entries.Entry.{Entry}
use Rattle.pd_chain.specs.Entries.{values_at, IsByKey, IsStart, IsEnd}

start_rest : (e : Entry) (es : List Entry) (x start : ℕ) → IsStart (e ∷ es) x (suc start) → IsStart es x start
start_rest e es x start s = record {
  within = (let w : suc start ≤ length (e ∷ es) = s.within in omega arith);
  before = λ k d l. s.before (suc k) d (omega arith);
  behind = λ k d l m. s.behind (suc k) d (omega arith) (omega arith);
}

start_again : (e : Entry) (es : List Entry) (x : ℕ) → IsStart (e ∷ es) x zero → IsStart es x zero
start_again e es x s = record {
  within = omega arith;
  before = λ k d l. absurd (omega arith);
  behind = λ k d l m. s.behind (suc k) d (omega arith) (omega arith);
}

end_rest : (e : Entry) (es : List Entry) (x end : ℕ) → IsEnd (e ∷ es) x (suc end) → IsEnd es x end
end_rest e es x end f = record {
  within = (let w : suc end ≤ length (e ∷ es) = f.within in omega arith);
  before = λ k d l. f.before (suc k) d (omega arith);
  behind = λ k d l m. f.behind (suc k) d (omega arith) (omega arith);
}

by_key_rest : (e : Entry) (es : List Entry) → IsByKey (e ∷ es) → IsByKey es
by_key_rest e es r = λ i j d l m. r (suc i) (suc j) d (omega arith) (omega arith)

none_under : (es : List Entry) (x : ℕ) (d : Entry) → ((k : ℕ) → k < length es → (get_or es k d).key ≡ x → ⊥) → values_at es x ≡ []
none_under [] x d h = refl
none_under (e ∷ es) x d h =
    let t : (e.key == x) ≡ false = other_test e.key x (h 0 (omega arith)) in
    rw t (none_under es x d (λ k l. h (suc k) (omega arith)))

pub counted : (es : List Entry) (x start end : ℕ) → IsStart es x start → IsEnd es x end → start + length (values_at es x) ≡ end
counted [] x start end s f =
    let a : start ≤ 0 = s.within in
    let b : end ≤ 0 = f.within in omega arith
counted (e ∷ es) x zero zero s f =
    let n : values_at (e ∷ es) x ≡ [] = none_under (e ∷ es) x e (λ k l q. let m : x < (get_or (e ∷ es) k e).key = f.behind k e (omega arith) l in omega arith) in
    let z : length (values_at (e ∷ es) x) ≡ 0 = ap length n in omega arith
counted (e ∷ es) x zero (suc end) s f =
    let low : x ≤ e.key = s.behind 0 e (omega arith) (omega arith) in
    let high : e.key ≤ x = f.before 0 e (omega arith) in
    let q : e.key ≡ x = omega arith in
    let t : (e.key == x) ≡ true = rw q (same_test x) in
    let k : zero + length (values_at es x) ≡ end = counted es x zero end (start_again e es x s) (end_rest e es x end f) in
    rw t (omega arith)
counted (e ∷ es) x (suc start) zero s f =
    let low : e.key < x = s.before 0 e (omega arith) in
    let high : x < e.key = f.behind 0 e (omega arith) (omega arith) in absurd (omega arith)
counted (e ∷ es) x (suc start) (suc end) s f =
    let low : e.key < x = s.before 0 e (omega arith) in
    let t : (e.key == x) ≡ false = other_test e.key x (λ q. omega arith) in
    let k : start + length (values_at es x) ≡ end = counted es x start end (start_rest e es x start s) (end_rest e es x end f) in
    rw t (omega arith)

-- the first entry has a greater key than x
none_left : (e : Entry) (es : List Entry) (x : ℕ) → IsByKey (e ∷ es) → IsStart (e ∷ es) x zero → (e.key == x) ≡ false → length (values_at (e ∷ es) x) ≡ 0
none_left e es x r s t =
    let low : x ≤ e.key = s.behind 0 e (omega arith) (omega arith) in
    let other : e.key ≡ x → ⊥ = other_node e.key x t in
    ap length (none_under (e ∷ es) x e (λ k l q. let m : e.key ≤ (get_or (e ∷ es) k e).key = r 0 k e (omega arith) l in other (omega arith)))

pub found : (es : List Entry) (x start i j : ℕ) → IsByKey es → IsStart es x start → j ≡ start + i → i < length (values_at es x) →
    (j < length es) × ((d : Entry) → get_or (values_at es x) i 0 ≡ (get_or es j d).value)
found [] x start i j r s q l = absurd (omega arith)
found (e ∷ es) x zero zero zero r s q l = by_test (e.key == x)
    (λ t. (omega arith, λ d. rw t refl))
    (λ t. absurd (let z : length (values_at (e ∷ es) x) ≡ 0 = none_left e es x r s t in omega arith))
found (e ∷ es) x zero zero (suc j) r s q l = absurd (omega arith)
found (e ∷ es) x zero (suc i) zero r s q l = absurd (omega arith)
found (e ∷ es) x zero (suc i) (suc j) r s q l = by_test (e.key == x)
    (λ t. let l' : suc i < length (e.value ∷ values_at es x) = rw t at l in
    let k : (j < length es) × ((d : Entry) → get_or (values_at es x) i 0 ≡ (get_or es j d).value) = found es x zero i j (by_key_rest e es r) (start_again e es x s) (omega arith) (omega arith) in
    ((let m : j < length es = k.0 in omega arith), λ d. rw t (k.1 d)))
    (λ t. absurd (let z : length (values_at (e ∷ es) x) ≡ 0 = none_left e es x r s t in omega arith))
found (e ∷ es) x (suc start) i zero r s q l = absurd (omega arith)
found (e ∷ es) x (suc start) i (suc j) r s q l =
    let low : e.key < x = s.before 0 e (omega arith) in
    let t : (e.key == x) ≡ false = other_test e.key x (λ p. omega arith) in
    let l' : i < length (values_at es x) = rw t at l in
    let k : (j < length es) × ((d : Entry) → get_or (values_at es x) i 0 ≡ (get_or es j d).value) = found es x start i j (by_key_rest e es r) (start_rest e es x start s) (omega arith) l' in
    ((let m : j < length es = k.0 in omega arith), λ d. rw t (k.1 d))

some_under : (es : List Entry) (k x : ℕ) (d : Entry) → k < length es → (get_or es k d).key ≡ x → 0 < length (values_at es x)
some_under [] k x d l q = absurd (omega arith)
some_under (e ∷ es) zero x d l q = let t : (e.key == x) ≡ true = rw q (same_test x) in rw t (omega arith)
some_under (e ∷ es) (suc k) x d l q = by_test (e.key == x)
    (λ t. rw t (omega arith))
    (λ t. rw t (some_under es k x d (omega arith) q))

pub first_found : (es : List Entry) (x start : ℕ) (d : Entry) → IsByKey es → IsStart es x start → start < length es → (get_or es start d).key ≡ x → (get_or es start d).value ≡ get_or (values_at es x) 0 0
first_found es x start d r s l q = sym ((found es x start 0 start r s (omega arith) (some_under es start x d l q)).1 d)

pub first_missing : (es : List Entry) (x start : ℕ) (d : Entry) → IsByKey es → IsStart es x start → (start < length es → (get_or es start d).key ≡ x → ⊥) → 0 ≡ get_or (values_at es x) 0 0
first_missing es x start d r s h = sym (ap (λ (v : List ℕ). get_or v 0 0) (none_under es x d (λ k l q. by_test (ltb k start)
    (λ t. let b : k < start = ltb-true k start t in
    let low : (get_or es k d).key < x = s.before k d b in omega arith)
    (λ t. let b : start ≤ k = ltb-false k start t in
    let high : x ≤ (get_or es start d).key = s.behind start d (omega arith) (omega arith) in
    let m : (get_or es start d).key ≤ (get_or es k d).key = r start k d b l in
    h (omega arith) (omega arith)))))

pub few_values : (es : List Entry) (x : ℕ) → length (values_at es x) ≤ length es
few_values [] x = omega arith
few_values (e ∷ es) x = let k : length (values_at es x) ≤ length es = few_values es x in
    by_test (e.key == x) (λ t. rw t (omega arith)) (λ t. rw t (omega arith))

-- 1 at an entry of x whose value is u
abbrev hits : ℕ → ℕ → Entry → ℕ
hits x u e = cond (e.key == x) (cond (e.value == u) 1 0) 0

one_more : (e : Entry) (es : List Entry) (x u : ℕ) → tally u (values_at (e ∷ es) x) ≡ hits x u e + tally u (values_at es x)
one_more e es x u = by_test (e.key == x) (λ t. rw t refl) (λ t. rw t (omega arith))

tally-values : (es : List Entry) (x u : ℕ) → tally u (values_at es x) ≡ sum_by (hits x u) es
tally-values [] x u = refl
tally-values (e ∷ es) x u = one_more e es x u ∙ ap (λ (n : ℕ). hits x u e + n) (tally-values es x u) ∙ sym (sum_by-cons (hits x u) e es)

pub tally-moved : (es fs : List Entry) (x u : ℕ) → IsPermutation es fs → tally u (values_at fs x) ≡ tally u (values_at es x)
tally-moved es fs x u p = tally-values fs x u ∙ sum_by-IsPermutation (hits x u) es fs p ∙ sym (tally-values es x u)
