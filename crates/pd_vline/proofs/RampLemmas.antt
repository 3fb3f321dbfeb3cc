-- Lists of ramps: a ramp added, and what is kept of a list.
use Rattle.std.proofs.Common.{◌≡◌, ℕ, suc, ◌+◌, ◌<◌, ◌≤◌, Bool, true, false, List, [], ◌∷◌, ◌++◌, length, take, refl, sym, ap, ◌∙◌, subst, arith, ltb, leb, if◌then◌else◌}
use Rattle.std.proofs.lemmas.Bool.{ltb-true, ltb-false, lt-ltb, le-ltb, le-leb, lt-leb}
use Rattle.std.specs.List.{filter, prefix_len}
use Rattle.pd_kind.specs.declared.states.Ramp.{Ramp}
use Rattle.pd_vline.specs.Ramps.{value_on, at, from_on, onto, AreBefore, AreFrom}

pub by_test : {P : Type 0} (b : Bool) → (b ≡ true → P) → (b ≡ false → P) → P
by_test true f g = f refl
by_test false f g = g refl

-- weaker bounds
pub before_later : (s t : ℕ) (l : List Ramp) → s ≤ t → AreBefore s l → AreBefore t l
before_later s t [] le h = tt
before_later s t (r ∷ l) le h = (omega (arith, h.0), h.1)

pub from_earlier : (s t : ℕ) (l : List Ramp) → s ≤ t → AreFrom t l → AreFrom s l
from_earlier s t [] le h = tt
from_earlier s t (r ∷ l) le h = (omega (arith, h.0), h.1)

-- the value where a ramp has started, and where it hasn't
pub at_started : (r : Ramp) (l : List Ramp) (t : ℕ) → r.start ≤ t → at (r ∷ l) t ≡ value_on r (at l r.start) t
at_started r l t le = let e : leb r.start t ≡ true = le-leb r.start t le in rw e refl

pub at_ahead : (r : Ramp) (l : List Ramp) (t : ℕ) → t < r.start → at (r ∷ l) t ≡ at l t
at_ahead r l t lt = let e : leb r.start t ≡ false = lt-leb r.start t lt in rw e refl

-- ramps that start after a time don't count at it
pub at_behind : (t : ℕ) (ramps older : List Ramp) → AreFrom (suc t) ramps → at (onto ramps older) t ≡ at older t
at_behind t [] older h = refl
at_behind t (r ∷ ramps) older h =
    at_behind t ramps (r ∷ older) (from_earlier (suc t) (suc r.start) ramps (omega (arith, h.0)) h.1)
    ∙ at_ahead r older t (omega (arith, h.0))

-- one more ramp, the newest
pub onto-push : (ramps older : List Ramp) (new : Ramp) → onto (ramps ++ new ∷ []) older ≡ new ∷ onto ramps older
onto-push [] older new = refl
onto-push (r ∷ ramps) older new = onto-push ramps (r ∷ older) new

cond_yes : {X : Type 0} (b : Bool) (x y : X) → b ≡ true → (if b then x else y) ≡ x
cond_yes b x y e = rw e refl

cond_no : {X : Type 0} (b : Bool) (x y : X) → b ≡ false → (if b then x else y) ≡ y
cond_no b x y e = rw e refl

-- a filter of the whole list
pub filter-onto : (p : Ramp → Bool) (ramps older : List Ramp) → filter p (onto ramps older) ≡ onto (filter p ramps) (filter p older)
filter-onto p [] older = refl
filter-onto p (r ∷ ramps) older =
    by_test (p r)
    (λ e. let ih = filter-onto p ramps (r ∷ older) in
    let f : filter p (r ∷ older) ≡ r ∷ filter p older = cond_yes (p r) (r ∷ filter p older) (filter p older) e in
    let g : filter p (r ∷ ramps) ≡ r ∷ filter p ramps = cond_yes (p r) (r ∷ filter p ramps) (filter p ramps) e in
    ih ∙ ap (onto (filter p ramps)) f ∙ sym (ap (λ (l : List Ramp). onto l (filter p older)) g))
    (λ e. let ih = filter-onto p ramps (r ∷ older) in
    let f : filter p (r ∷ older) ≡ filter p older = cond_no (p r) (r ∷ filter p older) (filter p older) e in
    let g : filter p (r ∷ ramps) ≡ filter p ramps = cond_no (p r) (r ∷ filter p ramps) (filter p ramps) e in
    ih ∙ ap (onto (filter p ramps)) f ∙ sym (ap (λ (l : List Ramp). onto l (filter p older)) g))

-- all of the older ramps start before a time
pub older_stay : (s t : ℕ) (l : List Ramp) → s ≤ t → AreBefore s l → filter (λ r. ltb r.start t) l ≡ l
older_stay s t [] le h = refl
older_stay s t (r ∷ l) le h =
    cond_yes (ltb r.start t) (r ∷ filter (λ r. ltb r.start t) l) _ (lt-ltb r.start t (omega (arith, h.0)))
    ∙ ap (λ (m : List Ramp). r ∷ m) (older_stay r.start t l (omega (arith, h.0)) h.1)

pub older_none : (s t : ℕ) (l : List Ramp) → s ≤ t → AreBefore s l → from_on t l ≡ []
older_none s t [] le h = refl
older_none s t (r ∷ l) le h =
    cond_no (leb t r.start) (r ∷ from_on t l) _ (lt-leb t r.start (omega (arith, h.0)))
    ∙ older_none r.start t l (omega (arith, h.0)) h.1

-- those that start later than a time, of which none starts before it
pub later_none : (s t : ℕ) (l : List Ramp) → s ≤ t → AreFrom t l → filter (λ r. ltb r.start s) l ≡ []
later_none s t [] le h = refl
later_none s t (r ∷ l) le h =
    cond_no (ltb r.start s) (r ∷ filter (λ r. ltb r.start s) l) _ (le-ltb r.start s (omega (arith, h.0)))
    ∙ later_none s (suc r.start) l (omega (arith, h.0)) h.1

pub later_all : (s t : ℕ) (l : List Ramp) → s ≤ t → AreFrom t l → from_on s l ≡ l
later_all s t [] le h = refl
later_all s t (r ∷ l) le h =
    cond_yes (leb s r.start) (r ∷ from_on s l) _ (le-leb s r.start (omega (arith, h.0)))
    ∙ ap (λ (m : List Ramp). r ∷ m) (later_all s (suc r.start) l (omega (arith, h.0)) h.1)

-- of ramps with rising starts, those that start before a time are the first ones
pub first_stay : (s t : ℕ) (l : List Ramp) → AreFrom t l → take (prefix_len (λ r. ltb r.start s) l) l ≡ filter (λ r. ltb r.start s) l
first_stay s t [] h = refl
first_stay s t (r ∷ l) h =
    by_test (ltb r.start s)
    (λ e. let f : prefix_len (λ r. ltb r.start s) (r ∷ l) ≡ suc (prefix_len (λ r. ltb r.start s) l) =
    cond_yes (ltb r.start s) (1 + prefix_len (λ r. ltb r.start s) l) 0 e ∙ omega arith in
    ap (λ (n : ℕ). take n (r ∷ l)) f
    ∙ ap (λ (m : List Ramp). r ∷ m) (first_stay s (suc r.start) l h.1)
    ∙ sym (cond_yes (ltb r.start s) (r ∷ filter (λ r. ltb r.start s) l) (filter (λ r. ltb r.start s) l) e))
    (λ e. let f : prefix_len (λ r. ltb r.start s) (r ∷ l) ≡ 0 = cond_no (ltb r.start s) (1 + prefix_len (λ r. ltb r.start s) l) 0 e in
    let g : filter (λ r. ltb r.start s) (r ∷ l) ≡ [] =
    cond_no (ltb r.start s) (r ∷ filter (λ r. ltb r.start s) l) (filter (λ r. ltb r.start s) l) e
    ∙ later_none s (suc r.start) l (omega (arith, ltb-false r.start s e)) h.1 in
    ap (λ (n : ℕ). take n (r ∷ l)) f ∙ sym g)

-- with a new ramp behind those that start before it, the starts still rise
pub from-push : (t : ℕ) (new : Ramp) (l : List Ramp) → t ≤ new.start → AreFrom t l → AreFrom t (filter (λ r. ltb r.start new.start) l ++ new ∷ [])
from-push t new [] le h = (le, tt)
from-push t new (r ∷ l) le h =
    by_test (ltb r.start new.start)
    (λ e. let P : List Ramp → Type 0 = λ m. AreFrom t (m ++ new ∷ []) in
    subst P (sym (cond_yes (ltb r.start new.start) (r ∷ filter (λ r. ltb r.start new.start) l) _ e))
    (h.0, from-push (suc r.start) new l (omega (arith, ltb-true r.start new.start e)) h.1))
    (λ e. let P : List Ramp → Type 0 = λ m. AreFrom t (m ++ new ∷ []) in
    subst P (sym (cond_no (ltb r.start new.start) (r ∷ filter (λ r. ltb r.start new.start) l) _ e))
    (from-push t new l le (from_earlier t (suc r.start) l (omega (arith, h.0)) h.1)))

pub length-onto : (ramps : List Ramp) (older : List Ramp) → length (onto ramps older) ≡ length ramps + length older
length-onto [] older = omega arith
length-onto (r ∷ ramps) older = omega (arith, length-onto ramps (r ∷ older))
