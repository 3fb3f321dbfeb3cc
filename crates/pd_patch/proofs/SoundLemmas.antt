-- Sums of sounds.
use Rattle.std.proofs.Common.{arith, ◌≡◌, ℕ, zero, suc, ◌+◌, ◌≤◌, List, [], ◌∷◌, take, ap, subst}
use Rattle.std.specs.Prelude.{length, ◌<◌}
use lib.ListN.{get_or}
use Rattle.pd_clock.specs.declared.times.Rate.{Rate}
use Rattle.pd_kind.specs.States.{size_of}
use Rattle.pd_tree.specs.declared.rows.Row.{Row}
use Rattle.pd_patch.specs.Sounds.{sound_in}

-- one row more
step_at : (r : Rate) (rows : List Row) (n : ℕ) (row d : Row) → n < length rows → row ≡ get_or rows n d →
    sound_in r (take (suc n) rows) ≡ sound_in r (take n rows) + size_of row.kind r
step_at r [] n row d l h = absurd (omega (arith, l))
step_at r (x ∷ rows) zero row d l h = let e = ap (λ (y : Row). size_of y.kind r) h in omega (arith, e)
step_at r (x ∷ rows) (suc n) row d l h = let rest = step_at r rows n row d (omega (arith, l)) h in omega (arith, rest)

-- a first part has no more sound
pub sound_part : (r : Rate) (rows : List Row) (n : ℕ) → sound_in r (take n rows) ≤ sound_in r rows
sound_part r [] zero = omega arith
sound_part r [] (suc n) = omega arith
sound_part r (x ∷ rows) zero = omega arith
sound_part r (x ∷ rows) (suc n) = let rest = sound_part r rows n in omega (arith, rest)

pub sound_step : (r : Rate) (rows : List Row) (n : ℕ) (row d : Row) → n < length rows → row ≡ get_or rows n d →
    sound_in r (take (n + 1) rows) ≡ sound_in r (take n rows) + size_of row.kind r
sound_step r rows n row d l h =
    let e : suc n ≡ n + 1 = omega arith in
    subst (λ m. sound_in r (take m rows) ≡ sound_in r (take n rows) + size_of row.kind r) e (step_at r rows n row d l h)
