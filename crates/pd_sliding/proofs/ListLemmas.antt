-- Numbers of ports of which one went elsewhere, and sums over them.
use Rattle.std.proofs.Common.{◌≡◌, ◌≢◌, ℕ, zero, suc, ◌+◌, ◌<◌, ◌≤◌, Bool, cond, nat_lt, eq-eqb, List, length, slice_get, inl, inr, refl, sym, ap, ◌∙◌, arith}
use Rattle.std.specs.List.{insert}
use Rattle.std.proofs.lemmas.Bool.{cases_lt}
use Rattle.std.proofs.lemmas.Bool.Decides.{nat_tests}
use Rattle.pd_canvas.specs.Wiring.{lowered, raised}
use Rattle.pd_following.specs.Raising.{up}
use Rattle.pd_following.proofs.ListLemmas.{up_before, up_behind, up_or, up_not, insert_here, insert_up}
use Rattle.pd_following.proofs.RaiseLemmas.{differ_test}
use Rattle.pd_sliding.specs.Slides.{slid}

raised_up : (n k : ℕ) → raised n k ≡ up n k
raised_up n k = let e : k + 1 ≡ suc k = omega arith in ap (λ m. cond (nat_lt k n) k m) e

lowered_before : (n k : ℕ) → k ≤ n → lowered n k ≡ k
lowered_before n k l = grind (arith, nat_tests)

lowered_behind : (n k : ℕ) → n ≤ k → lowered n (suc k) ≡ k
lowered_behind n k l = grind (arith, nat_tests)

lowered_of_up : (from i : ℕ) → lowered from (up from i) ≡ i
lowered_of_up from i = elim (cases_lt i from) [
  | inl l ↦ ap (lowered from) (up_before from i l) ∙ lowered_before from i (omega (arith, l))
  | inr l ↦ ap (lowered from) (up_behind from i l) ∙ lowered_behind from i l
]

pub slid_here : (from to : ℕ) → slid from to from ≡ to
slid_here from to = ap (λ (b : Bool). cond b to (raised to (lowered from from))) (eq-eqb from from refl)

slid_else : (from to i : ℕ) → i ≢ from → slid from to i ≡ up to (lowered from i)
slid_else from to i d = ap (λ (b : Bool). cond b to (raised to (lowered from i))) (differ_test i from d) ∙ raised_up to (lowered from i)

-- the ports but the one are before and after the same
pub slid_up : (from to i : ℕ) → slid from to (up from i) ≡ up to i
slid_up from to i = slid_else from to (up from i) (up_not from i) ∙ ap (up to) (lowered_of_up from i)

-- a number behind both stays
pub slid_far : (from to i : ℕ) → from < i → to < i → slid from to i ≡ i
slid_far from to zero l m = absurd (omega (arith, l))
slid_far from to (suc i) l m =
    slid_else from to (suc i) (λ e. omega (arith, e, l)) ∙ ap (up to) (lowered_behind from i (omega (arith, l))) ∙ up_behind to i (omega (arith, m))

pub slid_to : (from to i : ℕ) → slid from to i ≡ to → i ≡ from
slid_to from to i e = elim (up_or from i) [
  | inl same ↦ same
  | inr o ↦ absurd (up_not to o.0 (sym (slid_up from to o.0) ∙ ap (slid from to) (sym o.1) ∙ e))
]

-- each number is that of a port then
pub slid_from : (from to m : ℕ) → (i : ℕ) × (slid from to i ≡ m)
slid_from from to m = elim (up_or to m) [
  | inl same ↦ (from, slid_here from to ∙ sym same)
  | inr o ↦ (up from o.0, slid_up from to o.0 ∙ sym o.1)
]

up_less : (at i j : ℕ) → i < j → up at i < up at j
up_less at i j h = elim (cases_lt i at) [
  | inl l ↦ elim (cases_lt j at) [
    | inl m ↦ let u = up_before at i l in let v = up_before at j m in omega (arith, u, v, h)
    | inr m ↦ let u = up_before at i l in let v = up_behind at j m in omega (arith, u, v, h)
  ]
  | inr l ↦ let u = up_behind at i l in let v = up_behind at j (omega (arith, l, h)) in omega (arith, u, v, h)
]

-- the ports but the one keep their order
pub slid_order : (from to i j : ℕ) → i ≢ from → j ≢ from → i ≤ j → slid from to i ≤ slid from to j
slid_order from to i j a b h = elim (up_or from i) [
  | inl same ↦ absurd (a same)
  | inr o ↦ elim (up_or from j) [
    | inl same ↦ absurd (b same)
    | inr p ↦
        let u = ap (slid from to) o.1 ∙ slid_up from to o.0 in
        let v = ap (slid from to) p.1 ∙ slid_up from to p.0 in
        let e = o.1 in
        let f = p.1 in
        elim (cases_lt p.0 o.0) [
          | inl l ↦ let less = up_less from p.0 o.0 l in absurd (omega (arith, e, f, less, h))
          | inr l ↦ by_less o.0 p.0 l u v
        ]
  ]
]
  where
    by_less : (x y : ℕ) → x ≤ y → slid from to i ≡ up to x → slid from to j ≡ up to y → slid from to i ≤ slid from to j
    by_less x y l u v = elim (cases_lt x y) [
      | inl m ↦ let less = up_less to x y m in omega (arith, less, u, v)
      | inr m ↦ let e : x ≡ y = omega (arith, l, m) in let f = ap (up to) e in omega (arith, f, u, v)
    ]

module _ {X : Type 0} where
  -- what stood at a number stands where that is now
  pub slid_stands : (xs : List X) (from to : ℕ) (x : X) → from ≤ length xs → to ≤ length xs → (i : ℕ) → slice_get (insert xs to x) (slid from to i) ≡ slice_get (insert xs from x) i
  slid_stands xs from to x a b i = elim (up_or from i) [
    | inl e ↦
        ap (λ n. slice_get (insert xs to x) (slid from to n)) e ∙ ap (slice_get (insert xs to x)) (slid_here from to) ∙ insert_here xs to x b
        ∙ sym (insert_here xs from x a) ∙ ap (slice_get (insert xs from x)) (sym e)
    | inr o ↦
        ap (λ n. slice_get (insert xs to x) (slid from to n)) o.1 ∙ ap (slice_get (insert xs to x)) (slid_up from to o.0) ∙ insert_up xs to o.0 x b
        ∙ sym (insert_up xs from o.0 x a) ∙ ap (slice_get (insert xs from x)) (sym o.1)
  ]

-- the sum over the first so many numbers
abbrev pub sum_below : (ℕ → ℕ) → ℕ → ℕ
sum_below f zero = 0
sum_below f (suc n) = sum_below f n + f n

pub sums_same : (f g : ℕ → ℕ) (n : ℕ) → ((i : ℕ) → i < n → f i ≡ g i) → sum_below f n ≡ sum_below g n
sums_same f g zero h = refl
sums_same f g (suc n) h =
    let a = sums_same f g n (λ i l. h i (omega (arith, l))) in
    let b = h n (omega arith) in
    omega (arith, a, b)

-- one number set apart
sum_apart : (f : ℕ → ℕ) (at n : ℕ) → at ≤ n → sum_below f (suc n) ≡ f at + sum_below (λ i. f (up at i)) n
sum_apart f at zero l = let e : at ≡ 0 = omega (arith, l) in let s = ap f e in omega (arith, s)
sum_apart f at (suc n) l = elim (cases_lt n at) [
  | inl low ↦
      let e : at ≡ suc n = omega (arith, l, low) in
      let s = ap f e in
      let same = sums_same f (λ i. f (up at i)) (suc n) (λ i m. ap f (sym (up_before at i (omega (arith, m, e))))) in
      omega (arith, s, same)
  | inr high ↦
      let rest = sum_apart f at n high in
      let s = ap f (up_behind at n high) in
      omega (arith, s, rest)
]

-- the sum is the same where the numbers are those of the ports then
pub sum_slid : (f g : ℕ → ℕ) (from to n : ℕ) → from < n → to < n → ((i : ℕ) → i < n → g (slid from to i) ≡ f i) → sum_below g n ≡ sum_below f n
sum_slid f g from to zero a b h = absurd (omega (arith, a))
sum_slid f g from to (suc n) a b h =
    let x = sum_apart f from n (omega (arith, a)) in
    let y = sum_apart g to n (omega (arith, b)) in
    let here : g to ≡ f from = ap g (sym (slid_here from to)) ∙ h from a in
    let rest = sums_same (λ i. g (up to i)) (λ i. f (up from i)) n (λ i l. ap g (sym (slid_up from to i)) ∙ h (up from i) (up_within from i n l)) in
    omega (arith, x, y, here, rest)
  where
    up_within : (at i m : ℕ) → i < m → up at i < suc m
    up_within at i m l = elim (cases_lt i at) [
      | inl k ↦ let u = up_before at i k in omega (arith, u, l)
      | inr k ↦ let u = up_behind at i k in omega (arith, u, l)
    ]
