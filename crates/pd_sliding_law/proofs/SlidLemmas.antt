-- The numbers of ports where one went to another.
use Rattle.std.proofs.Common.{◌≡◌, ◌≢◌, ◌<◌, ◌≤◌, ℕ, Bool, cond, inl, inr, eq-eqb, refl, sym, ap, ◌∙◌, arith}
use Rattle.std.proofs.lemmas.Bool.{cases_eq}
use Rattle.std.proofs.lemmas.Bool.Decides.{nat_tests}
use Rattle.pd_canvas.specs.Wiring.{lowered, raised}
use Rattle.pd_following.proofs.RaiseLemmas.{differ_test}
use Rattle.pd_sliding.specs.Slides.{slid}

lowered_raised : (n k : ℕ) → lowered n (raised n k) ≡ k
lowered_raised n k = grind (arith, nat_tests)

raised_lowered : (n k : ℕ) → k ≢ n → raised n (lowered n k) ≡ k
raised_lowered n k d = grind (arith, nat_tests)

raised_apart : (n k : ℕ) → raised n k ≢ n
raised_apart n k e = grind (arith, nat_tests)

-- the port that went, and one that didn't
pub slid_here : (from to : ℕ) → slid from to from ≡ to
slid_here from to = ap (λ (b : Bool). cond b to (raised to (lowered from from))) (eq-eqb from from refl)

pub slid_other : (from to i : ℕ) → i ≢ from → slid from to i ≡ raised to (lowered from i)
slid_other from to i d = ap (λ (b : Bool). cond b to (raised to (lowered from i))) (differ_test i from d)

-- each number is that of a port from somewhere
pub slid_back : (from to i : ℕ) → slid from to (slid to from i) ≡ i
slid_back from to i = elim (cases_eq i to) [
  | inl e ↦ ap (λ z. slid from to (slid to from z)) e ∙ ap (slid from to) (slid_here to from) ∙ slid_here from to ∙ sym e
  | inr d ↦
      ap (slid from to) (slid_other to from i d) ∙ slid_other from to (raised from (lowered to i)) (raised_apart from (lowered to i))
      ∙ ap (raised to) (lowered_raised from (lowered to i)) ∙ raised_lowered to i d
]

-- where a port kept its number, all did
pub slid_still : (n i : ℕ) → slid n n i ≡ i
slid_still n i = elim (cases_eq i n) [
  | inl e ↦ ap (slid n n) e ∙ slid_here n n ∙ sym e
  | inr d ↦ slid_other n n i d ∙ raised_lowered n i d
]

pub slid_same : (from to i : ℕ) → from ≡ to → slid from to i ≡ i
slid_same from to i e = ap (λ z. slid z to i) e ∙ slid_still to i

-- a number that no port has stays, and the others are numbers of ports
raised_beyond : (from to m i : ℕ) → from < m → to < m → m ≤ i → raised to (lowered from i) ≡ i
raised_beyond from to m i a b c = grind (arith, nat_tests)

pub slid_beyond : (from to m i : ℕ) → from < m → to < m → m ≤ i → slid from to i ≡ i
slid_beyond from to m i a b c = slid_other from to i (λ e. later from m i a c e) ∙ raised_beyond from to m i a b c
  where
    later : (from m i : ℕ) → from < m → m ≤ i → i ≡ from → ⊥
    later from m i a c e = omega (arith, a, c, e)

raised_within : (from to m i : ℕ) → from < m → to < m → i < m → i ≢ from → raised to (lowered from i) < m
raised_within from to m i a b c d = grind (arith, nat_tests)

pub slid_within : (from to m i : ℕ) → from < m → to < m → i < m → slid from to i < m
slid_within from to m i a b c = elim (cases_eq i from) [
  | inl e ↦ let s = ap (slid from to) e ∙ slid_here from to in omega (arith, s, b)
  | inr d ↦ let s = slid_other from to i d in let w = raised_within from to m i a b c d in omega (arith, s, w)
]
