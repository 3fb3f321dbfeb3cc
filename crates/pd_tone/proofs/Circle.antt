-- Places on a circle.
use Rattle.std.proofs.Common.{◌≡◌, ℕ, suc, ℤ, pos, negsuc, ◌+◌, ◌-◌, ◌*◌, ◌/◌, ◌%◌, ◌+ℤ◌, ◌<◌, ◌≤◌, unsigned_abs, refl, ap, ◌∙◌, sym, arith}
use Rattle.std.specs.Int.{int_rem_euclid}
use Rattle.std.proofs.lemmas.Int.{ints, int_rem_euclid_is}
use Rattle.std.proofs.Math.Nat.{add-mul-mod_self_right, mod-eq_of_lt, mod-eq-sub-mod, mod-add-div', le-mul_of_pos_right, div-lt_iff_lt-mul}
use Rattle.pd_tone.specs.Tones.{moved}

-- a sum that lies on the circle of n, next above it, and next below it
pub within : (a n : ℕ) → a < n → int_rem_euclid (pos a) (pos n) ≡ pos a
within a n h = ap pos (mod-eq_of_lt h)

pub above : (a n : ℕ) → n ≤ a → a < 2 * n → int_rem_euclid (pos a) (pos n) ≡ pos (a - n)
above a n g h = let l : a - n < n = omega arith in ap pos (mod-eq-sub-mod g ∙ mod-eq_of_lt l)

pub below : (a n : ℕ) → a < n → int_rem_euclid (negsuc a) (pos n) ≡ pos (n - suc a)
below a n h = let e : a % n ≡ a = mod-eq_of_lt h in ap pos (omega arith)

shift : (p a q : ℕ) → suc a ≤ q → (pos p +ℤ negsuc a) +ℤ pos q ≡ pos (p + q - suc a)
shift p a q h = omega (arith, ints)

turns : (m p a : ℕ) → 0 < m → int_rem_euclid (pos p +ℤ negsuc a) (pos m) ≡ pos ((p + suc a * m - suc a) % m)
turns m p a h = int_rem_euclid_is (pos p +ℤ negsuc a) (pos m) m (suc a) (p + suc a * m - suc a) h refl (shift p a (suc a * m) (le-mul_of_pos_right (suc a) h))

whole_turns : (p q r m : ℕ) → p ≡ r + q * m → p % m ≡ r % m
whole_turns p q r m e = ap (λ n. n % m) e ∙ add-mul-mod_self_right r q m

-- a phase moves as its place on the circle does
pub moved_is : (m p : ℕ) (x : ℤ) → 0 < m → moved m p x ≡ unsigned_abs (int_rem_euclid (pos (p % m) +ℤ x) (pos m))
unfolding moved
moved_is m p (pos a) h = let e : p % m + p / m * m ≡ p = mod-add-div' p m in whole_turns (p + a) (p / m) (p % m + a) m (omega arith)
moved_is m p (negsuc a) h =
    let e : p % m + p / m * m ≡ p = mod-add-div' p m in
    let l : suc a ≤ suc a * m = le-mul_of_pos_right (suc a) h in
    ap unsigned_abs (turns m p a h ∙ ap pos (whole_turns (p + suc a * m - suc a) (p / m) (p % m + suc a * m - suc a) m (omega arith)) ∙ sym (turns m (p % m) a h))

-- a phase moves as far as the start of the circle does
pub moved_by : (m p : ℕ) (x : ℤ) → 0 < m → moved m p x ≡ (p + moved m 0 x) % m
unfolding moved
moved_by m p (pos a) h = let e : (0 + a) % m + (0 + a) / m * m ≡ 0 + a = mod-add-div' (0 + a) m in whole_turns (p + a) ((0 + a) / m) (p + (0 + a) % m) m (omega arith)
moved_by m p (negsuc a) h =
    let l : suc a ≤ suc a * m = le-mul_of_pos_right (suc a) h in
    let start : unsigned_abs (int_rem_euclid (pos 0 +ℤ negsuc a) (pos m)) ≡ (0 + suc a * m - suc a) % m = ap unsigned_abs (turns m 0 a h) in
    let e : (0 + suc a * m - suc a) % m + (0 + suc a * m - suc a) / m * m ≡ 0 + suc a * m - suc a = mod-add-div' (0 + suc a * m - suc a) m in
    ap unsigned_abs (turns m p a h)
    ∙ (whole_turns (p + suc a * m - suc a) ((0 + suc a * m - suc a) / m) (p + (0 + suc a * m - suc a) % m) m (omega arith) ∙ ap (λ n. (p + n) % m) (sym start))

-- a phase that has moved lies on the circle, and in one of its parts
pub moved_small : (m p : ℕ) (x : ℤ) → 0 < m → moved m p x < m
unfolding moved
moved_small m p x h = on_circle_small (pos p +ℤ x) m h
  where
    on_circle_small : (z : ℤ) (n : ℕ) → 0 < n → unsigned_abs (int_rem_euclid z (pos n)) < n
    on_circle_small (pos a) n h = let l : a % n < n = omega arith in l
    on_circle_small (negsuc a) n h = omega arith

pub few_parts : (phase part : ℕ) → 0 < part → phase < part * 2048 → phase / part < 2048
few_parts phase part g h = let l : phase < 2048 * part = omega arith in (div-lt_iff_lt-mul g).1 l
