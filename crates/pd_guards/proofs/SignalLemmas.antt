-- What the signal objects compute is in the range of signal values.
use Rattle.std.proofs.Common.{◌≡◌, ℕ, ℤ, zero, suc, pos, negsuc, neg_ℤ, ◌-◌, ◌*◌, ◌/◌, ◌%◌, ◌^◌, ◌<◌, ◌≤◌, ◌≤ℤ◌, ◌+ℤ◌, ◌-ℤ◌, ◌*ℤ◌, int_div, int_le, int_lt, min, nat_le, nat_lt, unsigned_abs, ◌==◌, List, [], ◌∷◌, ◌++◌, length, drop, map, replicate, slice_set, slice_index_or, Option, Some, None, IfSome, refl, sym, ap, ◌∙◌, subst, inl, inr, arith, rules}
use Rattle.std.proofs.lemmas.Int.{ints, unsigned_abs-mul}
use Rattle.std.proofs.lemmas.Bool.{cases_lt, leb-false}
use Rattle.std.proofs.Math.Nat.{mul-le-mul_left, div-le_of_le-mul, zero-div}
use Rattle.std.specs.List.{AllByRecursion, range_with_len}
use Rattle.pd_num.specs.Scale.{billionths, saturated, signal_of, sum_of, product_of, difference_of}
use Rattle.pd_clock.specs.declared.times.Rate.{Rate}
use Rattle.pd_clock.specs.declared.times.Rate.TheVariants.{R44100, R48000, R88200, R96000}
use Rattle.pd_clock.specs.Rates.{samples}
use Rattle.pd_object.specs.declared.kinds.SignalOperation.{SignalOperation}
use Rattle.pd_object.specs.declared.kinds.SignalOperation.TheVariants as operation
use Rattle.pd_object.specs.declared.kinds.SignalFunction.{SignalFunction}
use Rattle.pd_object.specs.declared.kinds.SignalFunction.TheVariants as function
use Rattle.pd_kind.specs.declared.states.Ramp.{Ramp}
use Rattle.pd_kind.specs.declared.states.Slope.{Slope}
use Rattle.pd_kind.specs.States.{silent_block}
use Rattle.pd_tone.specs.Cosine.{point, between, cosine}
use Rattle.pd_tone.specs.Tones.{circle, moved, phases, phase_after, share, next_seed, seeds, noise}
use Rattle.pd_tone.proofs.Table.{table_at, table_small}
use Rattle.pd_tone.proofs.Points.{last_point}
use Rattle.pd_tone.proofs.Circle.{moved_small}
use Rattle.pd_signal.specs.Samples.{zip_with, wrapped, clipped, last_of, nearer, low_passed, high_passed, kept_at, kept_values}
use Rattle.pd_signal.specs.Ramps.{slope_sample, ramp_of}
use Rattle.pd_signal.specs.Rings.{place_after, written, read_from}
use Rattle.pd_signal.specs.Tables.{place_in, value_at}
use Rattle.pd_signal.specs.Rows.{operation_of, function_of}
use Rattle.pd_vline.specs.Ramps.{value_on, base_at}
use Rattle.pd_vline.specs.Taken.{Front, front, taken}
use Rattle.pd_guards.specs.Order.{IsNumber}
use Rattle.pd_guards.specs.Sounds.{IsValue, AreValues, IsRamp, IsBase}
use Rattle.pd_guards.proofs.FactLemmas.{either, either_by, all-append, all-take, all-drop, all-set, all-made}
use Rattle.pd_guards.proofs.NumberLemmas.{far, abs_neg, abs_div, get_in}

pub near_value : (z : ℤ) → unsigned_abs z ≤ 1000000000000000000 → IsValue z
near_value (pos n) h = (search rules, search rules)
near_value (negsuc n) h = (search rules, search rules)

pub far_value : (z : ℤ) → IsValue z → unsigned_abs z ≤ 1000000000000000000
far_value z h = let a : neg_ℤ (pos 1000000000000000000) ≤ℤ z = h.0 in let b : z ≤ℤ pos 1000000000000000000 = h.1 in omega (arith, ints)

pub zero_value : IsValue (pos 0)
zero_value = near_value (pos 0) (omega arith)

pub saturated_value : (z : ℤ) → IsValue (saturated 1000000000000000000 z)
saturated_value (pos n) = near_value (pos (min n 1000000000000000000)) (omega arith)
saturated_value (negsuc n) = near_value (neg_ℤ (pos (min (suc n) 1000000000000000000))) (omega (arith, abs_neg (min (suc n) 1000000000000000000)))

pub signal_value : (z : ℤ) → IsNumber z → IsValue (signal_of z)
signal_value z h =
    let a : unsigned_abs z ≤ 1000000000000000 = far z h in
    let e : unsigned_abs (signal_of z) ≡ unsigned_abs z * 1000 = unsigned_abs-mul z (pos 1000) in
    near_value (signal_of z) (omega arith)

-- lists
pub all-same : {A : Type 0} (P : A → Type 0) (n : ℕ) (x : A) → P x → AllByRecursion P (replicate n x)
all-same P zero x h = tt
all-same P (suc n) x h = (h, all-same P n x h)

all-made_of : {A B : Type 0} (P : A → Type 0) (Q : B → Type 0) (f : A → B) → ((x : A) → P x → Q (f x)) → (xs : List A) → AllByRecursion P xs → AllByRecursion Q (map f xs)
all-made_of P Q f k [] h = tt
all-made_of P Q f k (x ∷ xs) h = (k x h.0, all-made_of P Q f k xs h.1)

pub zip_values : (f : ℤ → ℤ → ℤ) → ((x y : ℤ) → IsValue x → IsValue y → IsValue (f x y)) → (xs ys : List ℤ) → AreValues xs → AreValues ys → AreValues (zip_with f xs ys)
zip_values f k [] ys h i = tt
zip_values f k (x ∷ xs) [] h i = tt
zip_values f k (x ∷ xs) (y ∷ ys) h i = (k x y h.0 i.0, zip_values f k xs ys h.1 i.1)

pub sum_values : (xs ys : List ℤ) → AreValues xs → AreValues ys → AreValues (zip_with (sum_of billionths) xs ys)
sum_values xs ys h i = zip_values (sum_of billionths) (λ x y _ _. saturated_value (x +ℤ y)) xs ys h i

pub silent_values : AreValues silent_block
unfolding silent_block
silent_values = all-same IsValue 64 (pos 0) zero_value

-- operations and functions
pub operation_value : (o : SignalOperation) (x y : ℤ) → IsValue x → IsValue y → IsValue (operation_of o x y)
operation_value operation.Add x y h i = saturated_value (x +ℤ y)
operation_value operation.Subtract x y h i = saturated_value (x -ℤ y)
operation_value operation.Multiply x y h i = saturated_value (int_div (x *ℤ y) (pos 1000000000))
operation_value operation.Divide x y h i = either IsValue (unsigned_abs y == 0) (pos 0) _ zero_value (saturated_value (int_div (x *ℤ pos 1000000000) y))
operation_value operation.Greatest x y h i = either IsValue (int_le x y) y x i h
operation_value operation.Least x y h i = either IsValue (int_le x y) x y h i

wrapped_value : (x : ℤ) → IsValue (wrapped x)
wrapped_value (pos a) = near_value (pos (a % 1000000000)) (omega arith)
wrapped_value (negsuc a) = near_value (pos (1000000000 - 1 - a % 1000000000)) (omega arith)

function_value : (f : SignalFunction) (x : ℤ) → IsValue x → IsValue (function_of f x)
function_value function.Magnitude x h = near_value (pos (unsigned_abs x)) (far_value x h)
function_value function.Wrap x h = wrapped_value x

pub function_values : (f : SignalFunction) (xs : List ℤ) → AreValues xs → AreValues (map (function_of f) xs)
function_values f xs h = all-made_of IsValue IsValue (function_of f) (function_value f) xs h

pub clipped_values : (low high : ℤ) (xs : List ℤ) → IsValue low → IsValue high → AreValues xs → AreValues (map (clipped low high) xs)
clipped_values low high xs l g h =
    all-made_of IsValue IsValue (clipped low high) (λ x i. either IsValue (int_lt x low) low _ l (either IsValue (int_lt high x) high x g i)) xs h

-- `line~`, `samphold~` and the filters
pub ramp_values : (s : Slope) → IsValue s.target → AreValues (ramp_of s)
ramp_values s h =
    all-made IsValue (slope_sample s)
    (λ i. either IsValue (nat_le s.length i) s.target _ h (saturated_value (s.start +ℤ int_div ((s.target -ℤ s.start) *ℤ pos i) (pos s.length)))) (range_with_len s.at 64)

pub last_value : (v : ℤ) (xs : List ℤ) → IsValue v → AreValues xs → IsValue (last_of v xs)
last_value v [] k h = k
last_value v (x ∷ xs) k h = last_value x xs h.0 h.1

pub kept_in : (last kept : ℤ) (xs ys : List ℤ) → IsValue kept → AreValues xs → AreValues (kept_values last kept xs ys)
kept_in last kept [] ys k h = tt
kept_in last kept (x ∷ xs) [] k h = tt
kept_in last kept (x ∷ xs) (y ∷ ys) k h =
    let m : IsValue (kept_at last kept x y) = either IsValue (int_lt y last) x kept h.0 k in
    (m, kept_in y (kept_at last kept x y) xs ys m h.1)

pub low_values : (k v : ℤ) (xs : List ℤ) → AreValues (low_passed k v xs)
low_values k v [] = tt
low_values k v (x ∷ xs) = (saturated_value (v +ℤ product_of billionths k (difference_of billionths x v)), low_values k (nearer k v x) xs)

pub high_values : (k v : ℤ) (xs : List ℤ) → AreValues xs → AreValues (high_passed k v xs)
high_values k v xs h = zip_values (difference_of billionths) (λ x y _ _. saturated_value (x -ℤ y)) xs (low_passed k v xs) h (low_values k v xs)

-- rings and tables
pub written_values : (ring : List ℤ) (at : ℕ) (xs : List ℤ) → AreValues ring → AreValues xs → AreValues (written ring at xs)
written_values ring at [] h k = h
written_values ring at (x ∷ xs) h k = written_values (slice_set ring at x) (place_after (length ring) at) xs (all-set IsValue ring at x k.0 h) k.1

pub read_values : (ring : List ℤ) (at : ℕ) → AreValues ring → AreValues (read_from ring at)
read_values ring at h = all-take IsValue 64 (drop at ring ++ ring) (all-append IsValue (drop at ring) ring (all-drop IsValue at ring h) h)

pub table_values : (table xs : List ℤ) → AllByRecursion IsNumber table → AreValues (map (value_at table) xs)
table_values table xs h =
    all-made IsValue (value_at table) (λ x. signal_value (slice_index_or table (place_in table x) (pos 0)) (get_in table (place_in table x) h)) xs

-- the part of a way that is done
done_less : (w k n : ℕ) → k ≤ n → w * k / n ≤ w
done_less w k n l = div-le_of_le-mul n (omega (arith, mul-le-mul_left w l))

negated : (m n : ℕ) → int_div (neg_ℤ (pos m)) (pos n) ≡ neg_ℤ (pos (m / n))
negated zero n = ap pos (zero-div n) ∙ sym (ap (λ (m : ℕ). neg_ℤ (pos m)) (zero-div n))
negated (suc m) n = refl

part_small : (way : ℤ) (k n : ℕ) → k ≤ n → unsigned_abs (int_div (way *ℤ pos k) (pos n)) ≤ unsigned_abs way
part_small way k n l =
    let e : unsigned_abs (int_div (way *ℤ pos k) (pos n)) ≡ unsigned_abs (way *ℤ pos k) / n = abs_div (way *ℤ pos k) n in
    let f : unsigned_abs (way *ℤ pos k) ≡ unsigned_abs way * k = unsigned_abs-mul way (pos k) in
    let g : unsigned_abs (way *ℤ pos k) / n ≡ unsigned_abs way * k / n = ap (λ (m : ℕ). m / n) f in
    let h : unsigned_abs way * k / n ≤ unsigned_abs way = done_less (unsigned_abs way) k n l in
    omega (arith, e, g, h)

way_value : (from target way : ℤ) (k n : ℕ) → k ≤ n → target ≡ from +ℤ way → IsValue from → IsValue target → IsValue (from +ℤ int_div (way *ℤ pos k) (pos n))
way_value from target (pos w) k n l e h i =
    let q : ℕ = w * k / n in
    let b : q ≤ w = done_less w k n l in
    let h0 : neg_ℤ (pos 1000000000000000000) ≤ℤ from = h.0 in
    let i1 : target ≤ℤ pos 1000000000000000000 = i.1 in
    let low : neg_ℤ (pos 1000000000000000000) ≤ℤ (from +ℤ pos q) = omega (arith, ints) in
    let high : (from +ℤ pos q) ≤ℤ pos 1000000000000000000 = omega (arith, ints) in
    (low, high)
way_value from target (negsuc w) k n l e h i =
    let q : ℕ = suc w * k / n in
    let b : q ≤ suc w = done_less (suc w) k n l in
    let h1 : from ≤ℤ pos 1000000000000000000 = h.1 in
    let i0 : neg_ℤ (pos 1000000000000000000) ≤ℤ target = i.0 in
    let low : neg_ℤ (pos 1000000000000000000) ≤ℤ (from +ℤ neg_ℤ (pos q)) = omega (arith, ints) in
    let high : (from +ℤ neg_ℤ (pos q)) ≤ℤ pos 1000000000000000000 = omega (arith, ints) in
    let is : IsValue (from +ℤ neg_ℤ (pos q)) = (low, high) in
    subst (λ (z : ℤ). IsValue (from +ℤ z)) (sym (negated (suc w * k) n)) is

-- `vline~`
on_value : (r : Ramp) (from : ℤ) (t : ℕ) → IsRamp r → IsValue from → IsValue (value_on r from t)
on_value r from t h k =
    either_by IsValue (nat_le r.end t) r.target _ (λ _. h)
    (λ e. let l : t < r.end = leb-false r.end t e in way_value from r.target (r.target -ℤ from) (t - r.start) (r.end - r.start) (omega arith) (omega (arith, ints)) k h)

pub base_value : (base : Option (Ramp × ℤ)) (t : ℕ) → IfSome base IsBase → IsValue (base_at base t)
base_value None t h = zero_value
base_value (Some base) t h = on_value base.0 base.1 t h.0 h.1

pub record FrontIn (f : Front) : Type 0 where
  pub base : IfSome f.base IsBase
  pub ramps : AllByRecursion IsRamp f.ramps

pub taken_in : (t : ℕ) (base : Option (Ramp × ℤ)) (ramps : List Ramp) → IfSome base IsBase → AllByRecursion IsRamp ramps → FrontIn (taken t base ramps)
taken_in t base [] b h = record { base = b; ramps = h }
taken_in t base (r ∷ ramps) b h =
    either FrontIn (nat_lt r.start t) (taken t (Some (r, base_at base r.start)) ramps) (front base (r ∷ ramps))
    (taken_in t (Some (r, base_at base r.start)) ramps (h.0, base_value base r.start b) h.1) (record { base = b; ramps = h })

-- `phasor~`, `osc~` and `noise~`
phases_less : (m p : ℕ) (xs : List ℤ) → p < m → AllByRecursion (λ (q : ℕ). q < m) (phases m p xs)
phases_less m p [] h = tt
phases_less m p (x ∷ xs) h = (h, phases_less m (moved m p x) xs (moved_small m p x (omega (arith, h))))

pub phase_less : (m p : ℕ) (xs : List ℤ) → p < m → phase_after m p xs < m
phase_less m p [] h = h
phase_less m p (x ∷ xs) h = phase_less m (moved m p x) xs (moved_small m p x (omega (arith, h)))

share_value : (hertz p : ℕ) → p < hertz * 1000000000 → IsValue (share hertz p)
share_value hertz p h = let l : p / hertz ≤ 1000000000 = div-le_of_le-mul hertz (omega arith) in near_value (pos (p / hertz)) (omega arith)

pub share_values : (rate : Rate) (p : ℕ) (xs : List ℤ) → p < circle rate → AreValues (map (share (samples rate)) (phases (circle rate) p xs))
share_values rate p xs h =
    all-made_of (λ (q : ℕ). q < circle rate) IsValue (share (samples rate)) (λ q l. share_value (samples rate) q l) (phases (circle rate) p xs) (phases_less (circle rate) p xs h)

point_small : (k : ℕ) → unsigned_abs (point k) ≤ 1000000000
point_small k = elim (cases_lt 2048 k) [
  | inl lt ↦ (let e : point k ≡ pos 1000000000 = last_point k (omega arith) in let f : unsigned_abs (point k) ≡ 1000000000 = ap unsigned_abs e in omega (arith, f))
  | inr ge ↦ subst (λ (z : ℤ). unsigned_abs z ≤ 1000000000) (table_at k ge) (table_small k ge)
]

between_value : (from to : ℤ) (r m : ℕ) → r ≤ m → unsigned_abs from ≤ 1000000000 → unsigned_abs to ≤ 1000000000 → IsValue (between from to r m)
between_value from to r m l h i =
    let a : unsigned_abs (int_div ((to -ℤ from) *ℤ pos r) (pos m)) ≤ unsigned_abs (to -ℤ from) = part_small (to -ℤ from) r m l in
    near_value (between from to r m) (far_off from to (int_div ((to -ℤ from) *ℤ pos r) (pos m)) h i a)
  where
    far_off : (from to part : ℤ) → unsigned_abs from ≤ 1000000000 → unsigned_abs to ≤ 1000000000 → unsigned_abs part ≤ unsigned_abs (to -ℤ from) → unsigned_abs (from +ℤ part) ≤ 1000000000000000000
    far_off from to part h i a = omega (arith, ints)

rest_less : (n m : ℕ) → 0 < m → n % m ≤ m
rest_less n m h = let l : n % m < m = omega arith in omega (arith, l)

pub circle_positive : (rate : Rate) → 0 < circle rate
circle_positive R44100 = omega arith
circle_positive R48000 = omega arith
circle_positive R88200 = omega arith
circle_positive R96000 = omega arith

cosine_value : (m p : ℕ) → 0 < m → IsValue (cosine m p)
unfolding cosine
cosine_value m p h = between_value (point (p * 2048 / m)) (point (suc (p * 2048 / m))) (p * 2048 % m) m (rest_less (p * 2048) m h) (point_small (p * 2048 / m)) (point_small (suc (p * 2048 / m)))

pub cosine_values : (rate : Rate) (ps : List ℕ) → AreValues (map (cosine (circle rate)) ps)
cosine_values rate ps = all-made IsValue (cosine (circle rate)) (λ p. cosine_value (circle rate) p (circle_positive rate)) ps

seed_less : (s : ℕ) → next_seed s < 2 ^ 32
unfolding next_seed
seed_less s = omega arith

seeds_less : (n s : ℕ) → AllByRecursion (λ (z : ℕ). z < 2 ^ 32) (seeds n s)
unfolding seeds
seeds_less zero s = tt
seeds_less (suc n) s = (seed_less s, seeds_less n (next_seed s))

noise_value : (s : ℕ) → s < 2 ^ 32 → IsValue (noise s)
unfolding noise
noise_value s h =
    let a : unsigned_abs (pos s -ℤ pos (2 ^ 31)) ≤ 2 ^ 31 = omega (arith, ints) in
    let e : unsigned_abs ((pos s -ℤ pos (2 ^ 31)) *ℤ pos 1000000000) ≡ unsigned_abs (pos s -ℤ pos (2 ^ 31)) * 1000000000 = unsigned_abs-mul (pos s -ℤ pos (2 ^ 31)) (pos 1000000000) in
    let f : unsigned_abs (int_div ((pos s -ℤ pos (2 ^ 31)) *ℤ pos 1000000000) (pos (2 ^ 31))) ≡ unsigned_abs ((pos s -ℤ pos (2 ^ 31)) *ℤ pos 1000000000) / 2 ^ 31 =
    abs_div ((pos s -ℤ pos (2 ^ 31)) *ℤ pos 1000000000) (2 ^ 31) in
    near_value (int_div ((pos s -ℤ pos (2 ^ 31)) *ℤ pos 1000000000) (pos (2 ^ 31))) (omega arith)

pub noise_values : (n s : ℕ) → AreValues (map noise (seeds n s))
noise_values n s = all-made_of (λ (z : ℕ). z < 2 ^ 32) IsValue noise noise_value (seeds n s) (seeds_less n s)
