-- Lists by key, one element after another.
use Rattle.std.proofs.Common.{◌≡◌, ◌≢◌, ℕ, zero, suc, ◌+◌, ◌-◌, ◌<◌, ◌≤◌, List, [], ◌∷◌, ◌++◌, append_assoc, map, replicate, drop, length, Some, inl, inr, refl, sym, ap, ◌∙◌, subst, arith}
use Rattle.std.specs.Prelude.{slice_get, slice_set}
use lib.ListN.{get_or}
use Rattle.std.proofs.lemmas.Bool.{cases_eq}
use Rattle.std.proofs.lemmas.List.{length-map, map-append, map-set}
use Rattle.std.proofs.lemmas.Option.{none-some, same_Some, slice_get-get_or, slice_get_within}
use Rattle.pd_patch.specs.Numbers.{AreApart}
use Rattle.pd_boxes.specs.Rows.{NumbersFrom, NumbersBetween, PutsUnder}

more_behind : {X : Type 0} (n : ℕ) (x : X) → replicate n x ++ x ∷ [] ≡ replicate (n + 1) x
more_behind zero x = refl
more_behind (suc n) x = let e : suc n + 1 ≡ suc (n + 1) = omega arith in ap (λ ys. x ∷ ys) (more_behind n x) ∙ sym (ap (λ m. replicate m x) e)

pub longer_more : {A X : Type 0} (f : A → List X) (old vs : List A) (v : A) (n : ℕ) → map f vs ≡ map f old ++ replicate n [] → f v ≡ [] → map f (vs ++ v ∷ []) ≡ map f old ++ replicate (n + 1) []
longer_more f old vs v n told e =
    map-append f vs (v ∷ []) ∙ ap (λ ys. ys ++ f v ∷ []) told ∙ ap (λ y. (map f old ++ replicate n []) ++ y ∷ []) e
    ∙ append_assoc (map f old) (replicate n []) ([] ∷ []) ∙ ap (λ ys. map f old ++ ys) (more_behind n [])

drop_back : (xs : List ℕ) (n j m x : ℕ) → m ≡ n + j → slice_get xs m ≡ Some x → slice_get (drop n xs) j ≡ Some x
drop_back xs zero j m x e h = (let q : m ≡ j = omega (arith, e) in subst (λ y. slice_get xs y ≡ Some x) q h)
drop_back [] (suc n) j m x e h = absurd (none-some x h)
drop_back (y ∷ xs) (suc n) j zero x e h = absurd (omega (arith, e))
drop_back (y ∷ xs) (suc n) j (suc m) x e h = drop_back xs n j m x (omega (arith, e)) h

-- one box more has its number
pub between_more : (keys old now new : List ℕ) (number i : ℕ) → AreApart keys → number ≤ i → i < length keys → PutsUnder now new (get_or keys i 0) i
    → NumbersBetween old now keys number i → NumbersBetween old new keys number (i + 1)
between_more keys old now new number i apart from within P B =
    let here : slice_get keys i ≡ Some (get_or keys i 0) = slice_get-get_or keys i 0 within in
    record {
      under = λ j k l m at. elim (cases_eq j i) [
        | inl e ↦
            let same : get_or keys i 0 ≡ k = same_Some (get_or keys i 0) k (sym here ∙ ap (slice_get keys) (sym e) ∙ at) in
            ap (slice_get new) (sym same) ∙ P.is ∙ ap (λ x. Some x) (sym e)
        | inr d ↦ P.others k (λ e. d (apart j i k at (here ∙ ap (λ x. Some x) (sym e)))) ∙ B.under j k l (omega (arith, m, d)) at
      ];
      others = λ k out. P.others k (λ e. out (i - number) (drop_back keys number (i - number) i k (omega (arith, from)) (here ∙ ap (λ x. Some x) (sym e)))) ∙ B.others k out;
    }

pub between_all : (keys old new : List ℕ) (number i : ℕ) → length keys ≤ i → NumbersBetween old new keys number i → NumbersFrom old new keys number
between_all keys old new number i past B = record {
  under = λ j k l at. let w = slice_get_within keys j k at in B.under j k l (omega (arith, w, past)) at;
  others = B.others;
}

pub between_none : (keys old : List ℕ) (number i : ℕ) → i ≡ number → NumbersBetween old old keys number i
between_none keys old number i e = record { under = λ j k l m at. absurd (omega (arith, e, l, m)); others = λ k out. refl }

-- a box at a place of a canvas has its place in the list
pub reached : (keys numbers : List ℕ) (i n : ℕ) → ((j k : ℕ) → slice_get keys j ≡ Some k → k < n) → i < length keys → length numbers ≡ n → get_or keys i 0 < length numbers
reached keys numbers i n reach within e = let l = reach i (get_or keys i 0) (slice_get-get_or keys i 0 within) in omega (arith, l, e)

set_is : {X : Type 0} (xs : List X) (k : ℕ) (y : X) → k < length xs → slice_get (slice_set xs k y) k ≡ Some y
set_is [] k y l = absurd (omega (arith, l))
set_is (x ∷ xs) zero y l = refl
set_is (x ∷ xs) (suc k) y l = set_is xs k y (omega (arith, l))

set_other : {X : Type 0} (xs : List X) (k j : ℕ) (y : X) → j ≢ k → slice_get (slice_set xs k y) j ≡ slice_get xs j
set_other [] k j y d = refl
set_other (x ∷ xs) zero zero y d = absurd (d refl)
set_other (x ∷ xs) zero (suc j) y d = refl
set_other (x ∷ xs) (suc k) zero y d = refl
set_other (x ∷ xs) (suc k) (suc j) y d = set_other xs k j y (λ e. d (ap suc e))

-- one row is set
pub row_put : {A X : Type 0} (f : A → X) (vs : List A) (k : ℕ) (v : A) → k < length vs → PutsUnder (map f vs) (map f (slice_set vs k v)) k (f v)
row_put f vs k v l =
    let long = length-map vs f in
    record {
      is = ap (λ ys. slice_get ys k) (map-set f vs k v) ∙ set_is (map f vs) k (f v) (omega (arith, long, l));
      others = λ j d. ap (λ ys. slice_get ys j) (map-set f vs k v) ∙ set_other (map f vs) k j (f v) d;
    }
