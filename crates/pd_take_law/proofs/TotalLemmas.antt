-- Sums over keys of which some go.
use Rattle.std.proofs.Common.{◌≡◌, ◌≢◌, ℕ, zero, suc, ◌+◌, ◌<◌, Bool, true, false, not, cond, ◌||◌, List, [], ◌∷◌, ◌++◌, length, slice_get, Some, nat_eq, inl, inr, refl, sym, ap, ◌∙◌, arith}
use Rattle.std.specs.Prelude.{◌⊎◌}
use mathlib.Core.Logic.{⊎_elim}
use Rattle.std.specs.List.{AllByRecursion}
use Rattle.std.proofs.lemmas.Bool.{cases_eq, eq-eqb, eqb-true, false≢true, ne_eqb, or_cases}
use Rattle.std.proofs.lemmas.Option.{none-some, same_Some}
use Rattle.pd_owning.specs.Bound.{is_among, but, AreNew}
use Rattle.pd_owning.proofs.ListLemmas.{AreOther, all_kept_none, but_other, gone_itself}

abbrev pub total : (ℕ → ℕ) → List ℕ → ℕ
total f [] = 0
total f (k ∷ ks) = f k + total f ks

pub total_length : (ks : List ℕ) → total (λ k. 1) ks ≡ length ks
total_length [] = refl
total_length (k ∷ ks) = let rest = total_length ks in omega (arith, rest)

pub total_same : (f g : ℕ → ℕ) (ks : List ℕ) → AllByRecursion (λ k. f k ≡ g k) ks → total f ks ≡ total g ks
total_same f g [] A = refl
total_same f g (k ∷ ks) A = let first = A.0 in let rest = total_same f g ks A.1 in omega (arith, first, rest)

-- Keys that stand once.

abbrev pub AreOnce : List ℕ → Type 0
AreOnce [] = Unit {0}
AreOnce (k ∷ ks) = (is_among ks k ≡ false) × AreOnce ks

nothing_behind : (ks : List ℕ) → ks ++ [] ≡ ks
nothing_behind [] = refl
nothing_behind (k ∷ ks) = ap (λ (l : List ℕ). k ∷ l) (nothing_behind ks)

pub new_once : (ks : List ℕ) → AreNew ks [] → AreOnce ks
new_once [] N = tt
new_once (k ∷ ks) N = (ap (λ l. is_among l k) (sym (nothing_behind ks)) ∙ N.0, new_once ks N.1)

or_later : (b : Bool) → (b || true) ≡ true
or_later true = refl
or_later false = refl

pub there_among : (ks : List ℕ) (i k : ℕ) → slice_get ks i ≡ Some k → is_among ks k ≡ true
there_among [] i k at = absurd (none-some k at)
there_among (l ∷ ls) zero k at = ap (λ b. b || is_among ls k) (eq-eqb k l (sym (same_Some l k at)))
there_among (l ∷ ls) (suc i) k at = ap (λ b. nat_eq k l || b) (there_among ls i k at) ∙ or_later (nat_eq k l)

among_there : (ks : List ℕ) (k : ℕ) → is_among ks k ≡ true → (i : ℕ) × (slice_get ks i ≡ Some k)
among_there [] k t = absurd (false≢true t)
among_there (l ∷ ls) k t = by (or_cases (nat_eq k l) (is_among ls k) t) (λ r. among_there ls k r)
  where
    by : (nat_eq k l ≡ true) ⊎ (is_among ls k ≡ true) → (is_among ls k ≡ true → (i : ℕ) × (slice_get ls i ≡ Some k)) → (i : ℕ) × (slice_get (l ∷ ls) i ≡ Some k)
    by (inl e) f = (zero, ap (λ z. Some z) (sym (eqb-true k l e)))
    by (inr r) f = let s = f r in (suc s.0, s.1)

pub once_by : (ks : List ℕ) → ((i j k : ℕ) → i < j → slice_get ks i ≡ Some k → slice_get ks j ≡ Some k → ⊥) → AreOnce ks
once_by [] apart = tt
once_by (k ∷ ks) apart = (by (is_among ks k) refl, once_by ks (λ i j l less. apart (suc i) (suc j) l (omega (arith, less))))
  where
    by : (b : Bool) → is_among ks k ≡ b → is_among ks k ≡ false
    by false e = e
    by true e = let s = among_there ks k e in absurd (apart 0 (suc s.0) k (omega arith) refl s.1)

-- Without some of them.

others : (ks : List ℕ) (x : ℕ) → is_among ks x ≡ false → AreOther x ks
others [] x f = tt
others (k ∷ ks) x f = (λ e. false≢true (sym f ∙ ap (λ b. b || is_among ks x) (eq-eqb x k (sym e))), others ks x (second (nat_eq x k) (is_among ks x) f))
  where
    second : (a b : Bool) → (a || b) ≡ false → b ≡ false
    second true b e = cc
    second false b e = e

one_less : (f : ℕ → ℕ) (x : ℕ) (rest ks : List ℕ) → AreOnce ks → is_among rest x ≡ false → is_among ks x ≡ true → total f (but (x ∷ rest) ks) + f x ≡ total f (but rest ks)
one_less f x rest [] once out at = absurd (false≢true at)
one_less f x rest (k ∷ ks) once out at = ⊎_elim
    (λ (e : x ≡ k). here e)
    (λ (d : x ≢ k). later d (one_less f x rest ks once.1 out (ap (λ b. b || is_among ks x) (sym (ne_eqb x k d)) ∙ at)))
    (cases_eq x k)
  where
    here : x ≡ k → total f (but (x ∷ rest) (k ∷ ks)) + f x ≡ total f (but rest (k ∷ ks))
    here e =
        let goes : not (is_among (x ∷ rest) k) ≡ false = ap (λ z. not (is_among (x ∷ rest) z)) (sym e) ∙ gone_itself rest x in
        let stays : not (is_among rest k) ≡ true = ap (λ z. not (is_among rest z)) (sym e) ∙ ap not out in
        let left = ap (λ b. total f (cond b (k ∷ but (x ∷ rest) ks) (but (x ∷ rest) ks))) goes ∙ ap (total f) (but_other rest x ks (others ks x (ap (is_among ks) e ∙ once.0))) in
        let right = ap (λ b. total f (cond b (k ∷ but rest ks) (but rest ks))) stays in
        let same = ap f e in
        omega (arith, left, right, same)

    later : x ≢ k → total f (but (x ∷ rest) ks) + f x ≡ total f (but rest ks) → total f (but (x ∷ rest) (k ∷ ks)) + f x ≡ total f (but rest (k ∷ ks))
    later d less =
        let same : not (is_among (x ∷ rest) k) ≡ not (is_among rest k) = ap (λ b. not (b || is_among rest k)) (ne_eqb k x (λ e. d (sym e))) in
        ap (λ b. total f (cond b (k ∷ but (x ∷ rest) ks) (but (x ∷ rest) ks)) + f x) same ∙ by (not (is_among rest k)) less
      where
        by : (b : Bool) → total f (but (x ∷ rest) ks) + f x ≡ total f (but rest ks)
            → total f (cond b (k ∷ but (x ∷ rest) ks) (but (x ∷ rest) ks)) + f x ≡ total f (cond b (k ∷ but rest ks) (but rest ks))
        by true e = omega (arith, e)
        by false e = e

-- of keys that stand once some go that stand among them once
pub total_less : (f : ℕ → ℕ) (part ks : List ℕ) → AreOnce part → AreOnce ks → ((x : ℕ) → is_among part x ≡ true → is_among ks x ≡ true)
    → total f (but part ks) + total f part ≡ total f ks
total_less f [] ks P once there =
    let same = ap (total f) (all_kept_none ks) in
    omega (arith, same)
total_less f (x ∷ rest) ks P once there =
    let less = total_less f rest ks P.1 once (λ y t. there y (ap (λ b. nat_eq y x || b) t ∙ or_later (nat_eq y x))) in
    let one = one_less f x rest ks once P.0 (there x (ap (λ b. b || is_among rest x) (eq-eqb x x refl))) in
    omega (arith, less, one)
