-- The numbers below a number, and how tests of numbers come out.
use Rattle.std.proofs.Common.{◌≡◌, ℕ, zero, suc, ◌+◌, ◌<◌, ◌≤◌, ◌==◌, true, false, [], ◌∷◌, ◌++◌, arith}
use Rattle.std.specs.Prelude.{nat_lt}
use Rattle.std.proofs.lemmas.Bool.Decides.{nat_tests}
use Rattle.pd_order.specs.Graph.{tally}
use Rattle.pd_order.specs.Wired.{numbers_below}
use Rattle.pd_order.proofs.Basics.{by_test, zero_or, same_node, tally-append}

pub is_less : (i n : ℕ) → nat_lt i n ≡ true → i < n
is_less i n h = grind (arith, nat_tests)

pub is_not_less : (i n : ℕ) → nat_lt i n ≡ false → n ≤ i
is_not_less i n h = grind (arith, nat_tests)

pub less_test : (i n : ℕ) → i < n → nat_lt i n ≡ true
less_test i n h = grind (arith, nat_tests)

pub not_less_test : (i n : ℕ) → n ≤ i → nat_lt i n ≡ false
not_less_test i n h = grind (arith, nat_tests)

pub below_only : (n x : ℕ) → 0 < tally x (numbers_below n) → x < n
below_only zero x h = absurd (omega arith)
below_only (suc n) x h =
    let a : tally x (numbers_below n ++ n ∷ []) ≡ tally x (numbers_below n) + tally x (n ∷ []) = tally-append x (numbers_below n) (n ∷ []) in
    by_test (n == x)
    (λ t. let e : n ≡ x = same_node n x t in omega arith)
    (λ t. let a' : tally x (numbers_below n ++ n ∷ []) ≡ tally x (numbers_below n) + 0 = rw t at a in
    let k : x < n = below_only n x (omega arith) in omega arith)

pub below_once : (n x : ℕ) → tally x (numbers_below n) ≤ 1
below_once zero x = omega arith
below_once (suc n) x =
    let a : tally x (numbers_below n ++ n ∷ []) ≡ tally x (numbers_below n) + tally x (n ∷ []) = tally-append x (numbers_below n) (n ∷ []) in
    let k : tally x (numbers_below n) ≤ 1 = below_once n x in
    by_test (n == x)
    (λ t. let a' : tally x (numbers_below n ++ n ∷ []) ≡ tally x (numbers_below n) + 1 = rw t at a in
    let z : tally x (numbers_below n) ≡ 0 = zero_or (tally x (numbers_below n)) (λ h. let m : x < n = below_only n x h in let e : n ≡ x = same_node n x t in absurd (omega arith)) in omega arith)
    (λ t. let a' : tally x (numbers_below n ++ n ∷ []) ≡ tally x (numbers_below n) + 0 = rw t at a in omega arith)
