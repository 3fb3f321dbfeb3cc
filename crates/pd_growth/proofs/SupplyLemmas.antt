-- The `$0` numbers that there still are.
use Rattle.std.proofs.Common.{◌≡◌, ℕ, zero, suc, ◌+◌, ◌-◌, ◌<◌, ◌≤◌, [], ◌∷◌, refl, ap, ◌∙◌, arith}
use Rattle.pd_growth.specs.Steps.{Stock, gives, numbers_up, zeros_from, box_by_room}

up_none : (n : ℕ) → numbers_up n zero ≡ []
unfolding numbers_up
up_none n = refl

up_next : (n k : ℕ) → numbers_up n (suc k) ≡ n ∷ numbers_up (n + 1) k
unfolding numbers_up
up_next n k = refl

pub zeros_next : (n : ℕ) → n ≤ 1000000000 → zeros_from n ≡ n ∷ zeros_from (n + 1)
unfolding zeros_from
zeros_next n h = let e : 1000000001 - n ≡ suc (1000000001 - (n + 1)) = omega arith in ap (numbers_up n) e ∙ up_next n (1000000001 - (n + 1))

pub zeros_none : (n : ℕ) → 1000000000 < n → zeros_from n ≡ []
unfolding zeros_from
zeros_none n h = let e : 1000000001 - n ≡ zero = omega arith in ap (numbers_up n) e ∙ up_none n

pub room_next : (r : ℕ) (w : Stock) → 0 < r → box_by_room r w ≡ gives tt (record { names = w.names; zeros = w.zeros; room = r - 1 })
room_next zero w h = absurd (omega arith)
room_next (suc n) w h = let e : n ≡ suc n - 1 = omega arith in ap (λ x. gives tt (record { names = w.names; zeros = w.zeros; room = x })) e

pub ruleset supply_steps = (zeros_next, zeros_none, room_next)
