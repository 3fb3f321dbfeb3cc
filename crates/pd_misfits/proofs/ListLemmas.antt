-- Lists, what is in them, and numbers that rise.
use Rattle.std.proofs.Common.{◌≡◌, ℕ, zero, suc, ◌+◌, ◌<◌, ◌≤◌, List, [], ◌∷◌, ◌++◌, map, length, get_or, slice_get, Some, refl, sym, ap, ◌∙◌, inl, inr, arith}
use Rattle.std.specs.Prelude.{◌⊎◌}
use Rattle.std.specs.List.{flat_map, range_with_len, AllPairs, Contains}
use mathlib.Core.Logic.{⊎_elim}
use Rattle.std.proofs.lemmas.List.{map-append}
use Rattle.std.proofs.lemmas.Bool.{cases_eq}
use Rattle.std.proofs.lemmas.Option.{none-some, same_Some, slice_get_within, get_or_from_slice_get}

-- the list has this
abbrev pub IsIn : {X : Type 0} → X → List X → Type 0
IsIn x [] = ⊥
IsIn x (y ∷ ys) = (y ≡ x) ⊎ IsIn x ys

pub in_listed : {X : Type 0} (x : X) (xs : List X) (i : ℕ) → slice_get xs i ≡ Some x → IsIn x xs
in_listed x [] i e = absurd (none-some x e)
in_listed x (y ∷ ys) zero e = inl (same_Some y x e)
in_listed x (y ∷ ys) (suc i) e = inr (in_listed x ys i e)

pub listed_in : {X : Type 0} (x : X) (xs : List X) → IsIn x xs → (i : ℕ) × (slice_get xs i ≡ Some x)
listed_in x [] h = absurd h
listed_in {X} x (y ∷ ys) h = ⊎_elim
    (λ (e : y ≡ x). (0, ap (λ (z : X). Some z) e))
    (λ (r : IsIn x ys). let l = listed_in x ys r in (suc l.0, l.1)) h

pub in_left : {X : Type 0} (x : X) (xs ys : List X) → IsIn x xs → IsIn x (xs ++ ys)
in_left x [] ys h = absurd h
in_left x (z ∷ xs) ys h = ⊎_elim (λ (e : z ≡ x). inl e) (λ (r : IsIn x xs). inr (in_left x xs ys r)) h

pub in_right : {X : Type 0} (x : X) (xs ys : List X) → IsIn x ys → IsIn x (xs ++ ys)
in_right x [] ys h = h
in_right x (z ∷ xs) ys h = inr (in_right x xs ys h)

pub in_either : {X : Type 0} (x : X) (xs ys : List X) → IsIn x (xs ++ ys) → IsIn x xs ⊎ IsIn x ys
in_either x [] ys h = inr h
in_either x (z ∷ xs) ys h = ⊎_elim
    (λ (e : z ≡ x). inl (inl e))
    (λ (r : IsIn x (xs ++ ys)). ⊎_elim (λ (a : IsIn x xs). inl (inr a)) (λ (b : IsIn x ys). inr b) (in_either x xs ys r)) h

pub in_flat : {X Y : Type 0} (f : X → List Y) (xs : List X) (x : X) (y : Y) → IsIn x xs → IsIn y (f x) → IsIn y (flat_map f xs)
in_flat f [] x y h k = absurd h
in_flat f (z ∷ xs) x y h k = ⊎_elim
    (λ (e : z ≡ x). in_left y (f z) (flat_map f xs) (rw e k))
    (λ (r : IsIn x xs). in_right y (f z) (flat_map f xs) (in_flat f xs x y r k)) h

pub record FromFlat {X Y : Type 0} (f : X → List Y) (xs : List X) (y : Y) : Type 0 where
  pub of : X
  pub is_in : IsIn of xs
  pub has : IsIn y (f of)

pub from_flat : {X Y : Type 0} (f : X → List Y) (xs : List X) (y : Y) → IsIn y (flat_map f xs) → FromFlat f xs y
from_flat f [] y h = absurd h
from_flat f (x ∷ xs) y h = ⊎_elim
    (λ (a : IsIn y (f x)). record { of = x; is_in = inl refl; has = a })
    (λ (b : IsIn y (flat_map f xs)). let r = from_flat f xs y b in record { of = r.of; is_in = inr r.is_in; has = r.has })
    (in_either y (f x) (flat_map f xs) h)

pub in_map : {X Y : Type 0} (f : X → Y) (xs : List X) (x : X) → IsIn x xs → IsIn (f x) (map f xs)
in_map f [] x h = absurd h
in_map f (z ∷ xs) x h = ⊎_elim (λ (e : z ≡ x). inl (ap f e)) (λ (r : IsIn x xs). inr (in_map f xs x r)) h

pub from_map : {X Y : Type 0} (f : X → Y) (xs : List X) (y : Y) → IsIn y (map f xs) → (x : X) × (IsIn x xs × (f x ≡ y))
from_map f [] y h = absurd h
from_map f (z ∷ xs) y h = ⊎_elim
    (λ (e : f z ≡ y). (z, (inl refl, e)))
    (λ (r : IsIn y (map f xs)). let m = from_map f xs y r in (m.0, (inr m.1.0, m.1.1))) h

pub in_range : (a n o : ℕ) → a ≤ o → o < a + n → IsIn o (range_with_len a n)
in_range a zero o l m = absurd (omega (arith, l, m))
in_range a (suc n) o l m = ⊎_elim
    (λ (e : a ≡ o). inl e)
    (λ (d : a ≡ o → ⊥). inr (in_range (a + 1) n o (omega (arith, l, d)) (omega (arith, m))))
    (cases_eq a o)

pub from_range : (a n o : ℕ) → IsIn o (range_with_len a n) → (a ≤ o) × (o < a + n)
from_range a zero o h = absurd h
from_range a (suc n) o h = ⊎_elim
    (λ (e : a ≡ o). (omega (arith, e), omega (arith, e)))
    (λ (r : IsIn o (range_with_len (a + 1) n)). let b = from_range (a + 1) n o r in (omega (arith, b.0), omega (arith, b.1))) h

-- the same by places
in_at : {X : Type 0} (x : X) (xs : List X) (k : ℕ) → k < length xs → get_or xs k x ≡ x → IsIn x xs
in_at x [] k l e = absurd (omega (arith, l))
in_at x (y ∷ ys) zero l e = inl e
in_at x (y ∷ ys) (suc k) l e = inr (in_at x ys k (omega (arith, l)) e)

pub in_contained : {X : Type 0} (x : X) (xs : List X) → Contains xs x → IsIn x xs
in_contained x xs h = in_at x xs h.0 h.1 h.2

pub contains_in : {X : Type 0} (x : X) (xs : List X) → IsIn x xs → Contains xs x
contains_in x xs h =
    let l = listed_in x xs h in
    (l.0, slice_get_within xs l.0 x l.1, get_or_from_slice_get xs l.0 x x l.1)

-- Numbers that rise.

-- each is below all behind it
abbrev pub Rise : List ℕ → Type 0
Rise [] = Unit {0}
Rise (x ∷ xs) = ((y : ℕ) → IsIn y xs → x < y) × Rise xs

pub rise_from : (xs : List ℕ) → AllPairs (λ x y. x < y) xs → Rise xs
rise_from [] h = tt
rise_from (x ∷ xs) h = (
  λ y i.
      let l = listed_in y xs i in
      let w = slice_get_within xs l.0 y l.1 in
      let is = get_or_from_slice_get xs l.0 y y l.1 in
      let below : x < get_or xs l.0 y = h 0 (suc l.0) y (omega arith) (omega (arith, w)) in
      omega (arith, is, below),
  rise_from xs (λ i j d l m. h (suc i) (suc j) d (omega (arith, l)) (omega (arith, m))),
)

pub rise_append : (xs ys : List ℕ) → Rise xs → Rise ys → ((x y : ℕ) → IsIn x xs → IsIn y ys → x < y) → Rise (xs ++ ys)
rise_append [] ys a b h = b
rise_append (x ∷ xs) ys a b h = (
  λ y i. ⊎_elim (λ (l : IsIn y xs). a.0 y l) (λ (r : IsIn y ys). h x y (inl refl) r) (in_either y xs ys i),
  rise_append xs ys a.1 b (λ u v i j. h u v (inr i) j),
)

pub rise_range : (b a n : ℕ) → Rise (map (λ o. b + o) (range_with_len a n))
rise_range b a zero = tt
rise_range b a (suc n) = (
  λ y i.
      let m = from_map (λ o. b + o) (range_with_len (a + 1) n) y i in
      let r = from_range (a + 1) n m.0 m.1.0 in
      let e = m.1.1 in
      let l = r.0 in
      omega (arith, e, l),
  rise_range b (a + 1) n,
)

-- Two lists of numbers that rise give the same, where one has all of the other that give something.
pub flat_same : {X : Type 0} (f : ℕ → List X) (ys xs : List ℕ) → Rise xs → Rise ys → ((x : ℕ) → IsIn x xs → IsIn x ys)
    → ((y : ℕ) → IsIn y ys → IsIn y xs ⊎ (f y ≡ [])) → flat_map f xs ≡ flat_map f ys
flat_same f [] [] a b c d = refl
flat_same f [] (x ∷ xs) a b c d = absurd (c x (inl refl))
flat_same {X} f (y ∷ ys) [] a b c d =
    let none : f y ≡ [] = ⊎_elim (λ (i : IsIn y []). absurd i) (λ (e : f y ≡ []). e) (d y (inl refl)) in
    flat_same f ys [] a b.1 (λ x i. absurd i) (λ z i. d z (inr i)) ∙ sym (ap (λ (zs : List X). zs ++ flat_map f ys) none)
flat_same {X} f (y ∷ ys) (x ∷ xs) a b c d = ⊎_elim
    (λ (e : y ≡ x).
    ap (λ (z : ℕ). f z ++ flat_map f xs) (sym e)
    ∙ ap (λ (zs : List X). f y ++ zs) (flat_same f ys xs a.1 b.1
    (λ z i. ⊎_elim (λ (s : y ≡ z). absurd (let l = a.0 z i in omega (arith, l, s, e))) (λ (r : IsIn z ys). r) (c z (inr i)))
    (λ z i. ⊎_elim
    (λ (r : IsIn z (x ∷ xs)). ⊎_elim (λ (s : x ≡ z). absurd (let l = b.0 z i in omega (arith, l, s, e))) (λ (q : IsIn z xs). inl q) r)
    (λ (n : f z ≡ []). inr n) (d z (inr i)))))
    (λ (i : IsIn x ys).
    let l : y < x = b.0 x i in
    let above : (z : ℕ) → IsIn z (x ∷ xs) → y < z =
    (λ z j. ⊎_elim (λ (s : x ≡ z). omega (arith, s, l)) (λ (r : IsIn z xs). let m = a.0 z r in omega (arith, m, l)) j) in
    let none : f y ≡ [] = ⊎_elim (λ (j : IsIn y (x ∷ xs)). absurd (let m = above y j in omega (arith, m))) (λ (e : f y ≡ []). e) (d y (inl refl)) in
    flat_same f ys (x ∷ xs) a b.1
    (λ z j. ⊎_elim (λ (s : y ≡ z). absurd (let m = above z j in omega (arith, m, s))) (λ (r : IsIn z ys). r) (c z j))
    (λ z j. d z (inr j))
    ∙ sym (ap (λ (zs : List X). zs ++ flat_map f ys) none))
    (c x (inl refl))

pub flat_mapped : {X : Type 0} (f : ℕ → List X) (g : ℕ → ℕ) (h : ℕ → List X) (xs : List ℕ) → ((x : ℕ) → IsIn x xs → f (g x) ≡ h x) → flat_map f (map g xs) ≡ flat_map h xs
flat_mapped f g h [] e = refl
flat_mapped {X} f g h (x ∷ xs) e =
    ap (λ (ys : List X). ys ++ flat_map f (map g xs)) (e x (inl refl)) ∙ ap (λ (ys : List X). h x ++ ys) (flat_mapped f g h xs (λ y i. e y (inr i)))

-- nothing comes of a list of which each gives nothing
pub flat_none : {X Y : Type 0} (f : X → List Y) (xs : List X) → ((x : X) → IsIn x xs → f x ≡ []) → flat_map f xs ≡ []
flat_none f [] e = refl
flat_none {X} {Y} f (x ∷ xs) e = ap (λ (ys : List Y). ys ++ flat_map f xs) (e x (inl refl)) ∙ flat_none f xs (λ y i. e y (inr i))

-- one number more
last : (a n j : ℕ) → a + n ≡ j → range_with_len a (suc n) ≡ range_with_len a n ++ j ∷ []
last a zero j e = let same : a ≡ j = omega (arith, e) in ap (λ (x : ℕ). x ∷ []) same
last a (suc n) j e = ap (λ (xs : List ℕ). a ∷ xs) (last (a + 1) n j (omega (arith, e)))

pub map_more : (f : ℕ → ℕ) (n : ℕ) → map f (range_with_len 0 (n + 1)) ≡ map f (range_with_len 0 n) ++ f n ∷ []
map_more f n =
    let on : n + 1 ≡ suc n = omega arith in
    ap (λ m. map f (range_with_len 0 m)) on ∙ ap (map f) (last 0 n n (omega arith)) ∙ map-append f (range_with_len 0 n) (n ∷ [])
