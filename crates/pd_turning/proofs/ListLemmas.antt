-- Lists, and places in them.
use Rattle.std.proofs.Common.{◌≡◌, ℕ, zero, suc, ◌+◌, ◌-◌, ◌<◌, ◌≤◌, ◌==◌, ◌||◌, Bool, true, false, cond, not, List, [], ◌∷◌, ◌++◌, filter, length, slice_get, Some, refl, sym, ap, ◌∙◌, inl, inr, eq-eqb, arith}
use Rattle.std.specs.List.{flat_map, insert}
use mathlib.Core.Logic.{⊎_elim}
use Rattle.std.proofs.lemmas.Bool.{cases_lt}
use Rattle.std.proofs.lemmas.Option.{none-some, same_Some}
use Rattle.pd_web.specs.declared.web.Hop.{Hop}
use Rattle.pd_misfits.specs.declared.wires.BoxWire.{BoxWire}
use Rattle.pd_misfits.specs.Shedding.{is_among, is_left}
use Rattle.pd_misfits.proofs.ListLemmas.{in_listed, IsIn}

pub yes_no : true ≡ false → ⊥
yes_no q = cc

-- by cases of a test
pub by_cases : {P : Type 0} (b : Bool) → (b ≡ true → P) → (b ≡ false → P) → P
by_cases true y n = y refl
by_cases false y n = n refl

pub get_left : {X : Type 0} (xs ys : List X) (i : ℕ) (x : X) → slice_get xs i ≡ Some x → slice_get (xs ++ ys) i ≡ Some x
get_left [] ys i x e = absurd (none-some x e)
get_left (z ∷ xs) ys zero x e = e
get_left (z ∷ xs) ys (suc i) x e = get_left xs ys i x e

pub got_left : {X : Type 0} (xs ys : List X) (i : ℕ) (x : X) → i < length xs → slice_get (xs ++ ys) i ≡ Some x → slice_get xs i ≡ Some x
got_left [] ys i x l e = absurd (omega (arith, l))
got_left (z ∷ xs) ys zero x l e = e
got_left (z ∷ xs) ys (suc i) x l e = got_left xs ys i x (omega (arith, l)) e

pub get_right : {X : Type 0} (xs ys : List X) (i : ℕ) → slice_get (xs ++ ys) (length xs + i) ≡ slice_get ys i
get_right {X} [] ys i = let e : length {0} {A = X} [] + i ≡ i = omega arith in ap (slice_get ys) e
get_right (z ∷ xs) ys i = let e : length (z ∷ xs) + i ≡ suc (length xs + i) = omega arith in ap (slice_get (z ∷ xs ++ ys)) e ∙ get_right xs ys i

pub get_seam : {X : Type 0} (xs ys : List X) → slice_get (xs ++ ys) (length xs) ≡ slice_get ys 0
get_seam [] ys = refl
get_seam (z ∷ xs) ys = get_seam xs ys

pub insert_seam : {X : Type 0} (xs ys : List X) (x : X) → insert (xs ++ ys) (length xs) x ≡ xs ++ x ∷ ys
insert_seam [] [] x = refl
insert_seam [] (y ∷ ys) x = refl
insert_seam {X} (z ∷ xs) ys x = ap (λ (zs : List X). z ∷ zs) (insert_seam xs ys x)

-- what stands before a place, and what behind it
pub record Parts {X : Type 0} (xs : List X) (i : ℕ) (x : X) : Type 0 where
  pub ahead : List X
  pub rest : List X
  pub parts : xs ≡ ahead ++ x ∷ rest
  pub place : length ahead ≡ i

pub parts_at : {X : Type 0} (xs : List X) (i : ℕ) (x : X) → slice_get xs i ≡ Some x → Parts xs i x
parts_at [] i x e = absurd (none-some x e)
parts_at {X} (z ∷ xs) zero x e = record { ahead = []; rest = xs; parts = ap (λ (y : X). y ∷ xs) (same_Some z x e); place = refl }
parts_at {X} (z ∷ xs) (suc i) x e = let P = parts_at xs i x e in record { ahead = z ∷ P.ahead; rest = P.rest; parts = ap (λ (ys : List X). z ∷ ys) P.parts; place = ap suc P.place }

-- Lists that give lists.

-- where something comes from, and what stands behind it there
pub record FromOne {X Y : Type 0} (f : X → List Y) (xs : List X) (i : ℕ) (y : Y) : Type 0 where
  pub of : X
  pub is_in : IsIn of xs
  pub place : ℕ
  pub stands : slice_get (f of) place ≡ Some y
  pub next : (z : Y) → slice_get (f of) (place + 1) ≡ Some z → slice_get (flat_map f xs) (i + 1) ≡ Some z

pub from_one : {X Y : Type 0} (f : X → List Y) (xs : List X) (i : ℕ) (y : Y) → slice_get (flat_map f xs) i ≡ Some y → FromOne f xs i y
from_one f [] i y e = absurd (none-some y e)
from_one {X} {Y} f (x ∷ xs) i y e = ⊎_elim
    (λ (l : i < length (f x)). record {
      of = x;
      is_in = inl refl;
      place = i;
      stands = got_left (f x) (flat_map f xs) i y l e;
      next = λ z n. get_left (f x) (flat_map f xs) (i + 1) z n;
    })
    (λ (l : length (f x) ≤ i).
    let j : ℕ = i - length (f x) in
    let same : length (f x) + j ≡ i = omega (arith, l) in
    let on : i + 1 ≡ length (f x) + (j + 1) = omega (arith, l) in
    let r = from_one f xs j y (sym (get_right (f x) (flat_map f xs) j) ∙ ap (slice_get (f x ++ flat_map f xs)) same ∙ e) in
    record {
      of = r.of;
      is_in = inr r.is_in;
      place = r.place;
      stands = r.stands;
      next = λ z n. ap (slice_get (f x ++ flat_map f xs)) on ∙ get_right (f x) (flat_map f xs) (j + 1) ∙ r.next z n;
    })
    (cases_lt i (length (f x)))

-- each that a test picks gives one
abbrev pub picks_of : {X Y : Type 0} → (X → Bool) → (X → Y) → List X → List Y
picks_of {X} {Y} p g xs = flat_map (λ x. cond (p x) (g x ∷ []) []) xs

-- which one gave something, and what stands behind it
pub record Chosen {X Y : Type 0} (p : X → Bool) (g : X → Y) (xs : List X) (i : ℕ) (y : Y) : Type 0 where
  pub ahead : List X
  pub of : X
  pub rest : List X
  pub parts : xs ≡ ahead ++ of ∷ rest
  pub is : g of ≡ y
  pub next : slice_get (picks_of p g xs) (i + 1) ≡ slice_get (picks_of p g rest) 0

chosen_yes : {X Y : Type 0} (p : X → Bool) (g : X → Y) (x : X) (xs : List X) (i : ℕ) (y : Y) → p x ≡ true → ((j : ℕ) → slice_get (picks_of p g xs) j ≡ Some y → Chosen p g xs j y)
    → slice_get (g x ∷ picks_of p g xs) i ≡ Some y → Chosen p g (x ∷ xs) i y
chosen_yes {X} {Y} p g x xs zero y q rec e = record {
  ahead = [];
  of = x;
  rest = xs;
  parts = refl;
  is = same_Some (g x) y e;
  next = ap (λ b. slice_get (cond b (g x ∷ []) [] ++ picks_of p g xs) 1) q;
}
chosen_yes {X} {Y} p g x xs (suc i) y q rec e =
    let r = rec i e in
    record {
      ahead = x ∷ r.ahead;
      of = r.of;
      rest = r.rest;
      parts = ap (λ (zs : List X). x ∷ zs) r.parts;
      is = r.is;
      next =
          let on : suc i + 1 ≡ suc (i + 1) = omega arith in
          ap (λ b. slice_get (cond b (g x ∷ []) [] ++ picks_of p g xs) (suc i + 1)) q ∙ ap (slice_get (g x ∷ picks_of p g xs)) on ∙ r.next;
    }

chosen_no : {X Y : Type 0} (p : X → Bool) (g : X → Y) (x : X) (xs : List X) (i : ℕ) (y : Y) → p x ≡ false → Chosen p g xs i y → Chosen p g (x ∷ xs) i y
chosen_no {X} {Y} p g x xs i y q r =
    record {
      ahead = x ∷ r.ahead;
      of = r.of;
      rest = r.rest;
      parts = ap (λ (zs : List X). x ∷ zs) r.parts;
      is = r.is;
      next = ap (λ b. slice_get (cond b (g x ∷ []) [] ++ picks_of p g xs) (i + 1)) q ∙ r.next;
    }

pub chosen_at : {X Y : Type 0} (p : X → Bool) (g : X → Y) (xs : List X) (i : ℕ) (y : Y) → slice_get (picks_of p g xs) i ≡ Some y → Chosen p g xs i y
chosen_at p g [] i y e = absurd (none-some y e)
chosen_at p g (x ∷ xs) i y e = by_cases (p x)
    (λ q. chosen_yes p g x xs i y q (λ j f. chosen_at p g xs j y f) (sym (ap (λ b. slice_get (cond b (g x ∷ []) [] ++ picks_of p g xs) i) q) ∙ e))
    (λ q. chosen_no p g x xs i y q (chosen_at p g xs i y (sym (ap (λ b. slice_get (cond b (g x ∷ []) [] ++ picks_of p g xs) i) q) ∙ e)))

pub flat_like : {X Y : Type 0} (f g : X → List Y) (xs : List X) → ((x : X) → IsIn x xs → f x ≡ g x) → flat_map f xs ≡ flat_map g xs
flat_like f g [] h = refl
flat_like {X} {Y} f g (x ∷ xs) h = ap (λ (ys : List Y). ys ++ flat_map f xs) (h x (inl refl)) ∙ ap (λ (ys : List Y). g x ++ ys) (flat_like f g xs (λ y i. h y (inr i)))

pub filter_like : {X : Type 0} (p q : X → Bool) (xs : List X) → ((x : X) → IsIn x xs → p x ≡ q x) → filter p xs ≡ filter q xs
filter_like p q [] h = refl
filter_like {X} p q (x ∷ xs) h =
    ap (λ (b : Bool). cond b (x ∷ filter p xs) (filter p xs)) (h x (inl refl))
    ∙ ap (λ (ys : List X). cond (q x) (x ∷ ys) ys) (filter_like p q xs (λ y i. h y (inr i)))

-- Wires of a list by their keys.

pub among_here : (ms : List BoxWire) (m : BoxWire) → IsIn m ms → is_among ms m.key ≡ true
among_here [] m i = absurd i
among_here (x ∷ ms) m i = ⊎_elim
    (λ (e : x ≡ m). ap (λ b. b || is_among ms m.key) (eq-eqb m.key x.key (ap (λ (y : BoxWire). y.key) (sym e))))
    (λ (r : IsIn m ms). or_so (m.key == x.key) (is_among ms m.key) (among_here ms m r)) i
  where
    or_so : (a b : Bool) → b ≡ true → (a || b) ≡ true
    or_so true b e = refl
    or_so false b e = e

pub among_at : (ms : List BoxWire) (i : ℕ) (m : BoxWire) (k : ℕ) → slice_get ms i ≡ Some m → k ≡ m.key → is_among ms k ≡ true
among_at ms i m k at e = ap (is_among ms) e ∙ among_here ms m (in_listed m ms i at)

pub not_left : (ms : List BoxWire) (h : Hop) → is_left ms h ≡ false → is_among ms h.key ≡ true
not_left ms h e = turned (is_among ms h.key) e
  where
    turned : (b : Bool) → not b ≡ false → b ≡ true
    turned true e = refl
    turned false e = absurd (yes_no e)
