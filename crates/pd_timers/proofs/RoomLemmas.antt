-- Owners below a number, no two clocks of one of them: there are no more clocks than the number.
use Rattle.std.proofs.Common.{arith, ◌≡◌, ℕ, zero, suc, ◌+◌, ◌<◌, ◌≤◌, ◌==◌, true, false, List, [], ◌∷◌, ◌++◌, map, length, refl, sym, ap, subst}
use Rattle.std.specs.Prelude.{Option, Some, None, IfNone, IfSome}
use mathlib.Core.Logic.{◌⊎◌, ⊎_elim, inl, inr}
use lib.Dec.{eqb}
use Rattle.std.specs.List.{AllByRecursion, IsDistinct, list_any}
use Rattle.std.proofs.lemmas.Bool.{cases_Bool}
use Rattle.std.proofs.lemmas.Bool.Decides.{nat_tests}
use Rattle.std.proofs.lemmas.Map.Steps.{length-le_from_distinct_below}
use Rattle.pd_clock.specs.Queue.{Clock, ClockList, clocks_of, AreApart, IsTaken, without}
use Rattle.pd_timers.specs.Room.{AreBelow, HasRoom}

abbrev pub owners : List Clock → List ℕ
owners cs = map (λ (c : Clock). c.owner) cs

pub fewer_without : (o w : ℕ) (cs : List Clock) → clocks_of o (without w cs) ≤ clocks_of o cs
fewer_without o w [] = omega arith
fewer_without o w (c ∷ cs) = ⊎_elim
    (λ t. let rest = fewer_without o w cs in rw t (omega (arith, rest)))
    (λ f. let rest = fewer_without o w cs in rw f (omega (arith, rest)))
    (cases_Bool (c.owner == w))

pub clocks-append : (o : ℕ) (xs ys : List Clock) → clocks_of o (xs ++ ys) ≡ clocks_of o xs + clocks_of o ys
clocks-append o [] ys = omega arith
clocks-append o (c ∷ xs) ys = let rest = clocks-append o xs ys in omega (arith, rest)

below_one : (o w t : ℕ) → 0 < clocks_of o (record { time = t; owner = w } ∷ []) → o ≡ w
below_one o w t h = ⊎_elim
    (λ e. grind (arith, nat_tests))
    (λ e. let none = rw e at h in absurd (omega (arith, none)))
    (cases_Bool (w == o))

pub below_set : (end w t : ℕ) (cs : List Clock) → AreBelow end cs → w < end → AreBelow end (without w cs ++ record { time = t; owner = w } ∷ [])
below_set end w t cs below l = λ o h.
    let sum = clocks-append o (without w cs) (record { time = t; owner = w } ∷ []) in
    let less = fewer_without o w cs in
    ⊎_elim
    (λ same. let e : o ≡ w = grind (arith, nat_tests) in omega (arith, e, l))
    (λ other. let own = rw other at sum in below o (omega (arith, own, less, h)))
    (cases_Bool (w == o))

pub below_without : (end w : ℕ) (cs : List Clock) → AreBelow end cs → AreBelow end (without w cs)
below_without end w cs below = λ o h. let less = fewer_without o w cs in below o (omega (arith, less, h))

pub below_taken : (end : ℕ) (old new : List Clock) (c : Clock) → IsTaken old new c → AreBelow end old → AreBelow end new
below_taken end old new c taken below = λ o h.
    let was = clocks-append o taken.before (c ∷ taken.after) in
    let now = clocks-append o taken.before taken.after in
    let P : List Clock → Type 0 = λ cs. 0 < clocks_of o cs in
    let h2 : 0 < clocks_of o (taken.before ++ taken.after) = subst P taken.new_is h in
    below o (subst P (sym taken.old_is) (omega (arith, was, now, h2)))

none_there : (o : ℕ) (cs : List Clock) → clocks_of o cs ≡ 0 → AllByRecursion (λ y. eqb o y ≡ false) (owners cs)
none_there o [] e = tt
none_there o (c ∷ cs) e = ⊎_elim
    (λ t. let one = rw t at e in absurd (omega (arith, one)))
    (λ f. let none = rw f at e in (grind (arith, nat_tests), none_there o cs (omega (arith, none))))
    (cases_Bool (c.owner == o))

apart_rest : (c : Clock) (cs : List Clock) → AreApart (c ∷ cs) → AreApart cs
apart_rest c cs apart = λ o. let h = apart o in omega (arith, h)

distinct : (cs : List Clock) → AreApart cs → IsDistinct eqb (owners cs)
unfolding IsDistinct
distinct [] apart = tt
distinct (c ∷ cs) apart =
    let h = apart c.owner in
    let own : (c.owner == c.owner) ≡ true = grind (arith, nat_tests) in
    let one = rw own at h in
    (none_there c.owner cs (omega (arith, one)), distinct cs (apart_rest c cs apart))

listed : (q : ℕ) (cs : List Clock) → list_any (eqb q) (owners cs) ≡ true → 0 < clocks_of q cs
listed q [] h = cc
listed q (c ∷ cs) h = ⊎_elim
    (λ (t : eqb q c.owner ≡ true). let e : (c.owner == q) ≡ true = grind (arith, nat_tests) in rw e (omega arith))
    (λ f. let rest = listed q cs (rw f at h) in omega (arith, rest))
    (cases_Bool (eqb q c.owner))

one_more_distinct : (w : ℕ) (cs : List Clock) → clocks_of w cs ≡ 0 → AreApart cs → IsDistinct eqb (w ∷ owners cs)
unfolding IsDistinct
one_more_distinct w cs none apart = (none_there w cs none, distinct cs apart)

one_more_below : (end w : ℕ) (cs : List Clock) → AreBelow end cs → w < end → (q : ℕ) → list_any (eqb q) (w ∷ owners cs) ≡ true → q < end
one_more_below end w cs below l q h = ⊎_elim
    (λ t. let e : q ≡ w = grind (arith, nat_tests) in omega (arith, e, l))
    (λ f. below q (listed q cs (rw f at h)))
    (cases_Bool (eqb q w))

length-owners : (cs : List Clock) → length (owners cs) ≡ length cs
length-owners [] = refl
length-owners (c ∷ cs) = ap suc (length-owners cs)

pub either : {A : Type 0} (r : Option A) (X Y : Type 0) (P : A → Type 0) → IfNone r X → IfSome r P → (X → Y) → ((a : A) → P a → Y) → Y
either None X Y P none some f g = f none
either (Some a) X Y P none some f g = g a some

-- an owner below the number has a clock, or there is room for one more
pub fits : (q : ClockList) (end w : ℕ) → HasRoom q end → AreApart q.clocks → w < end → (0 < clocks_of w q.clocks) ⊎ (length q.clocks < q.room)
fits q end w has apart l = by_count (clocks_of w q.clocks) refl where
  by_count : (n : ℕ) → n ≡ clocks_of w q.clocks → (0 < clocks_of w q.clocks) ⊎ (length q.clocks < q.room)
  by_count zero e =
      let few = length-le_from_distinct_below (w ∷ owners q.clocks) end (one_more_distinct w q.clocks (sym e) apart) (one_more_below end w q.clocks has.below l) in
      let same = length-owners q.clocks in
      let room = has.room in
      inr (omega (arith, few, same, room))
  by_count (suc n) e = inl (omega (arith, e))
