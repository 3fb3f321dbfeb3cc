-- Ramps that become the base.
use Rattle.std.proofs.Common.{◌≡◌, ◌≢◌, ℕ, ℤ, suc, ◌+◌, ◌<◌, ◌≤◌, true, false, List, [], ◌∷◌, length, drop, set, get_or, get_or-set_other, get_or-set_same, below_more, Option, Some, refl, sym, ap, ◌∙◌, subst, arith, ltb, add-one}
use Rattle.std.proofs.lemmas.Bool.{ltb-true, ltb-false, lt-ltb, le-ltb}
use Rattle.std.proofs.lemmas.List.{drop_more, drop_all}
use Rattle.pd_kind.specs.declared.states.Ramp.{Ramp}
use Rattle.pd_vline.specs.Ramps.{value_on, at, base_at, onto, AreFrom, StandFor}
use Rattle.pd_vline.specs.Taken.{Front, front, taken, value_at}
use Rattle.pd_vline.proofs.RampLemmas.{by_test, before_later, from_earlier, at_started, at_behind}

abbrev pub Base : Type 0
Base = Option (Ramp × ℤ)

pub taken_one : (t : ℕ) (base : Base) (r : Ramp) (l : List Ramp) → r.start < t → taken t base (r ∷ l) ≡ taken t (Some (r, base_at base r.start)) l
taken_one t base r l lt = let e : ltb r.start t ≡ true = lt-ltb r.start t lt in rw e refl

pub taken_none : (t : ℕ) (base : Base) (r : Ramp) (l : List Ramp) → t ≤ r.start → taken t base (r ∷ l) ≡ front base (r ∷ l)
taken_none t base r l le = let e : ltb r.start t ≡ false = le-ltb r.start t le in rw e refl

-- a loop's step, and its ends
pub taken_more : (t : ℕ) (base : Base) (l : List Ramp) (i : ℕ) (d : Ramp) → i < length l → (get_or l i d).start < t →
    taken t base (drop i l) ≡ taken t (Some (get_or l i d, base_at base (get_or l i d).start)) (drop (i + 1) l)
taken_more t base l i d in' lt = ap (taken t base) (drop_more l i d in') ∙ taken_one t base (get_or l i d) (drop (i + 1) l) lt

pub taken_stops : (t : ℕ) (base : Base) (l : List Ramp) (i : ℕ) (d : Ramp) → i < length l → t ≤ (get_or l i d).start → taken t base (drop i l) ≡ front base (drop i l)
taken_stops t base l i d in' le =
    ap (taken t base) (drop_more l i d in') ∙ taken_none t base (get_or l i d) (drop (i + 1) l) le ∙ sym (ap (front base) (drop_more l i d in'))

pub taken_ends : (t : ℕ) (base : Base) (l : List Ramp) (i : ℕ) → length l ≤ i → taken t base (drop i l) ≡ front base (drop i l)
taken_ends t base l i le = ap (taken t base) (drop_all i l le) ∙ sym (ap (front base) (drop_all i l le))

-- first up to one time, then up to a later one
pub taken_taken : (s t : ℕ) (base : Base) (l : List Ramp) → s ≤ t → taken t (taken s base l).base (taken s base l).ramps ≡ taken t base l
taken_taken s t base [] le = refl
taken_taken s t base (r ∷ l) le =
    by_test (ltb r.start s)
    (λ e. let lt : r.start < s = ltb-true r.start s e in
    let f = taken_one s base r l lt in
    ap (λ (g : Front). taken t g.base g.ramps) f
    ∙ taken_taken s t (Some (r, base_at base r.start)) l le
    ∙ sym (taken_one t base r l (omega arith)))
    (λ e. ap (λ (g : Front). taken t g.base g.ramps) (taken_none s base r l (ltb-false r.start s e)))

-- a ramp that becomes the base has its value
base_started : (end : ℕ) (base : Base) (older : List Ramp) (r : Ramp) (t : ℕ) → ((t : ℕ) → end ≤ t → base_at base t ≡ at older t) → end ≤ r.start → r.start ≤ t →
    base_at (Some (r, base_at base r.start)) t ≡ at (r ∷ older) t
base_started end base older r t same le started =
    ap (λ (z : ℤ). value_on r z t) (same r.start le) ∙ sym (at_started r older t started)

-- the value of what is kept is that of the list
pub value_is : (end : ℕ) (base : Base) (ramps older : List Ramp) (t : ℕ) → AreFrom end ramps → ((t : ℕ) → end ≤ t → base_at base t ≡ at older t) → end ≤ t →
    value_at base ramps t ≡ at (onto ramps older) t
value_is end base [] older t late same le = same t le
value_is end base (r ∷ ramps) older t late same le =
    by_test (ltb r.start (suc t))
    (λ e. let lt : r.start < suc t = ltb-true r.start (suc t) e in
    ap (λ (g : Front). base_at g.base t) (taken_one (suc t) base r ramps lt)
    ∙ value_is r.start (Some (r, base_at base r.start)) ramps (r ∷ older) t (from_earlier r.start (suc r.start) ramps (omega arith) late.1)
    (λ u h. base_started end base older r u same late.0 h) (omega arith))
    (λ e. let above : suc t ≤ r.start = ltb-false r.start (suc t) e in
    ap (λ (g : Front). base_at g.base t) (taken_none (suc t) base r ramps above)
    ∙ same t le ∙ sym (at_behind t (r ∷ ramps) older (above, late.1)))

pub value_stands : (end : ℕ) (base : Base) (ramps l : List Ramp) (t : ℕ) → StandFor end base ramps l → end ≤ t → value_at base ramps t ≡ at l t
value_stands end base ramps l t s le = value_is end base ramps s.older t s.late s.same le ∙ sym (ap (λ (m : List Ramp). at m t) s.split)

-- what is kept up to a later time stands for the same list
pub taken_stands : (end t : ℕ) (base : Base) (ramps l : List Ramp) → StandFor end base ramps l → end ≤ t → StandFor t (taken t base ramps).base (taken t base ramps).ramps l
taken_stands end t base [] l s le =
    record { older = s.older; split = s.split; early = before_later end t s.older le s.early; late = tt; same = λ u h. s.same u (omega arith) }
taken_stands end t base (r ∷ ramps) l s le =
    let P : Front → Type 0 = λ g. StandFor t g.base g.ramps l in
    by_test (ltb r.start t)
    (λ e. let lt : r.start < t = ltb-true r.start t e in
    let first : end ≤ r.start = s.late.0 in
    subst P (sym (taken_one t base r ramps lt))
    (taken_stands (suc r.start) t (Some (r, base_at base r.start)) ramps l
    (record {
      older = r ∷ s.older;
      split = s.split;
      early = (omega arith, before_later end r.start s.older first s.early);
      late = s.late.1;
      same = λ u h. base_started end base s.older r u s.same first (omega arith);
    }) (omega arith)))
    (λ e. let above : t ≤ r.start = ltb-false r.start t e in
    subst P (sym (taken_none t base r ramps above))
    (record { older = s.older; split = s.split; early = before_later end t s.older le s.early; late = (above, s.late.1); same = λ u h. s.same u (omega arith) }))

-- a loop that has taken the ramps up to a time
pub taken_later : (s t : ℕ) (base : Base) (l : List Ramp) (now : Base) (rest : List Ramp) → front now rest ≡ taken s base l → s ≤ t → taken t now rest ≡ taken t base l
taken_later s t base l now rest e le = ap (λ (g : Front). taken t g.base g.ramps) e ∙ taken_taken s t base l le

pub value_taken : (t : ℕ) (base : Base) (l : List Ramp) (now : Base) (rest : List Ramp) → front now rest ≡ taken (t + 1) base l → base_at now t ≡ value_at base l t
value_taken t base l now rest e = ap (λ (g : Front). base_at g.base t) e ∙ ap (λ (n : ℕ). base_at (taken n base l).base t) (add-one t)

-- one more sample
pub samples_more : (out : List ℤ) (f : ℕ → ℤ) (i : ℕ) (v d : ℤ) → i < length out → ((k : ℕ) → k < i → get_or out k d ≡ f k) → v ≡ f i → (k : ℕ) → k < i + 1 → get_or (set out i v) k d ≡ f k
samples_more out f i v d in' before here =
    below_more (λ k. get_or (set out i v) k d ≡ f k) i
    (λ k h. let ne : k ≢ i = omega arith in get_or-set_other out i k v d ne ∙ before k h)
    (get_or-set_same out i v d in' ∙ here)
