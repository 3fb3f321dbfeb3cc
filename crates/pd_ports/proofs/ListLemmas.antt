-- What stands in a list of ports.
use Rattle.std.proofs.Common.{◌≡◌, ◌⊎◌, ℕ, zero, suc, ◌+◌, ◌<◌, List, [], ◌∷◌, ◌++◌, length, get_or, take, slice_get, Option, Some, sym, ap, ◌∙◌, inl, inr, arith}
use Rattle.std.specs.Prelude.{option_and_then}
use Rattle.std.proofs.lemmas.List.{take_more}
use Rattle.std.proofs.lemmas.Option.{none-some, slice_get-get_or}
use Rattle.pd_web.specs.declared.sockets.Port.{Port}

-- what is told of the port at a place
abbrev pub at_place : (Port → Option ℕ) → List Port → ℕ → Option ℕ
at_place f ports i = option_and_then f (slice_get ports i)

-- it is told of one of these ports
abbrev pub IsTold : (Port → Option ℕ) → List Port → ℕ → Type 0
IsTold f ports x = (i : ℕ) × (at_place f ports i ≡ Some x)

pub nothing : (f : Port → Option ℕ) (x i : ℕ) → at_place f [] i ≡ Some x → ⊥
nothing f x zero h = none-some x h
nothing f x (suc i) h = none-some x h

told_parts : (f : Port → Option ℕ) (xs : List Port) (p : Port) (n x : ℕ) → at_place f (xs ++ p ∷ []) n ≡ Some x → IsTold f xs x ⊎ (f p ≡ Some x)
told_parts f [] p zero x h = inr h
told_parts f [] p (suc n) x h = absurd (nothing f x n h)
told_parts f (y ∷ ys) p zero x h = inl (zero, h)
told_parts f (y ∷ ys) p (suc n) x h = elim (told_parts f ys p n x h) [
  | inl a ↦ inl (suc a.0, a.1)
  | inr b ↦ inr b
]

-- what is told of the first ports is told of those before the last one or of it
pub told_more : (f : Port → Option ℕ) (ports : List Port) (i x : ℕ) (d : Port) → i < length ports → IsTold f (take (i + 1) ports) x → IsTold f (take i ports) x ⊎ (f (get_or ports i d) ≡ Some x)
told_more f ports i x d l h = told_parts f (take i ports) (get_or ports i d) h.0 x (ap (λ (xs : List Port). at_place f xs h.0) (sym (take_more ports i d l)) ∙ h.1)

-- what is told of one of the first ports
pub told_front : (f : Port → Option ℕ) (xs : List Port) (i n x : ℕ) → at_place f (take i xs) n ≡ Some x → (n < i) × (at_place f xs n ≡ Some x)
told_front f xs zero n x h = absurd (nothing f x n h)
told_front f [] (suc i) n x h = absurd (nothing f x n h)
told_front f (y ∷ ys) (suc i) zero x h = (omega arith, h)
told_front f (y ∷ ys) (suc i) (suc n) x h = let r = told_front f ys i n x h in let l = r.0 in (omega (arith, l), r.1)

pub told_here : (f : Port → Option ℕ) (ports : List Port) (i x : ℕ) (d : Port) → i < length ports → f (get_or ports i d) ≡ Some x → at_place f ports i ≡ Some x
told_here f ports i x d l h = ap (option_and_then f) (slice_get-get_or ports i d l) ∙ h

-- a port before a place is one of the first ports
pub told_before : (f : Port → Option ℕ) (xs : List Port) (m n x : ℕ) → n < m → at_place f xs n ≡ Some x → at_place f (take m xs) n ≡ Some x
told_before f xs zero n x l h = absurd (omega (arith, l))
told_before f [] (suc m) n x l h = h
told_before f (y ∷ ys) (suc m) zero x l h = h
told_before f (y ∷ ys) (suc m) (suc n) x l h = told_before f ys m n x (omega (arith, l)) h

-- what is told of the port at this place
pub told_last : (f : Port → Option ℕ) (ports : List Port) (i m x : ℕ) (d : Port) → i < length ports → m ≡ i → at_place f ports m ≡ Some x → f (get_or ports i d) ≡ Some x
told_last f ports i m x d l e h = sym (ap (option_and_then f) (slice_get-get_or ports i d l)) ∙ ap (at_place f ports) (sym e) ∙ h

-- each port told of among the first ones is told of among one more
pub told_still : (f : Port → Option ℕ) (ports : List Port) (i x : ℕ) → IsTold f (take i ports) x → IsTold f (take (i + 1) ports) x
told_still f ports i x h = let r = told_front f ports i h.0 x h.1 in let n = r.0 in (h.0, told_before f ports (i + 1) h.0 x (omega (arith, n)) r.1)

pub told_next : (f : Port → Option ℕ) (ports : List Port) (i x : ℕ) (d : Port) → i < length ports → f (get_or ports i d) ≡ Some x → IsTold f (take (i + 1) ports) x
told_next f ports i x d l h = (i, told_before f ports (i + 1) i x (omega arith) (told_here f ports i x d l h))
