-- The graph of rows is lawful.
use Rattle.std.proofs.Common.{◌≡◌, ℕ, ◌+◌, ◌-◌, ◌<◌, ◌≤◌, ◌==◌, true, false, cond, List, [], ◌∷◌, ◌++◌, length, length-append, refl, arith}
use Rattle.std.specs.Prelude.{nat_lt}
use Rattle.pd_order.specs.Graph.{tally, IsLawful}
use Rattle.pd_order.specs.Wired.{numbers_below}
use Rattle.pd_order.proofs.Basics.{by_test, same_node, same_test, other_node, other_test, tally-append}
use Rattle.pd_order.proofs.WiredLemmas.{nodes_below}
use Rattle.pd_bench_orders.specs.Rows.{back, forth, rows}
use Rattle.pd_measure.proofs.NumberLemmas.{is_less, is_not_less, less_test, below_only, below_once}

-- box x is fed from step numbers before where that box feeds it
stepped : (step n x u : ℕ) → tally u (back step n x) ≡ tally x (forth step n u)
stepped step n x u = by_test (nat_lt x step)
    (λ a. let l : x < step = is_less x step a in
    by_test (nat_lt u (n - step))
    (λ b. let t : (u + step == x) ≡ false = other_test (u + step) x (λ e. omega arith) in rw (a, b, t) refl)
    (λ b. rw (a, b) refl))
    (λ a. let l : step ≤ x = is_not_less x step a in
    by_test (nat_lt x n)
    (λ d. let m : x < n = is_less x n d in
    by_test (x - step == u)
    (λ t. let e : x - step ≡ u = same_node (x - step) u t in
    let b : nat_lt u (n - step) ≡ true = less_test u (n - step) (omega arith) in
    let s : (u + step == x) ≡ true = (let q : u + step ≡ x = omega arith in rw q (same_test x)) in rw (a, d, t, b, s) refl)
    (λ t. let s : (u + step == x) ≡ false = other_test (u + step) x (λ e. other_node (x - step) u t (omega arith)) in
    by_test (nat_lt u (n - step)) (λ b. rw (a, d, t, b, s) refl) (λ b. rw (a, d, t, b) refl)))
    (λ d. let m : n ≤ x = is_not_less x n d in
    by_test (nat_lt u (n - step))
    (λ b. let k : u < n - step = is_less u (n - step) b in
    let s : (u + step == x) ≡ false = other_test (u + step) x (λ e. omega arith) in rw (a, d, b, s) refl)
    (λ b. rw (a, d, b) refl)))

joined : (n x u : ℕ) → tally u (back 8 n x ++ back 9 n x) ≡ tally x (forth 8 n u ++ forth 9 n u)
joined n x u =
    let a : tally u (back 8 n x ++ back 9 n x) ≡ tally u (back 8 n x) + tally u (back 9 n x) = tally-append u (back 8 n x) (back 9 n x) in
    let b : tally x (forth 8 n u ++ forth 9 n u) ≡ tally x (forth 8 n u) + tally x (forth 9 n u) = tally-append x (forth 8 n u) (forth 9 n u) in
    let c : tally u (back 8 n x) ≡ tally x (forth 8 n u) = stepped 8 n x u in
    let d : tally u (back 9 n x) ≡ tally x (forth 9 n u) = stepped 9 n x u in omega arith

back_within : (step n x u : ℕ) → 0 < tally u (back step n x) → (x < n) × (u < n)
back_within step n x u h = by_test (nat_lt x step)
    (λ a. absurd (let k : 0 < tally u [] = rw a at h in omega arith))
    (λ a. let h' : 0 < tally u (cond (nat_lt x n) ((x - step) ∷ []) []) = rw a at h in
    by_test (nat_lt x n)
    (λ d. let m : x < n = is_less x n d in
    let k : 0 < tally u ((x - step) ∷ []) = rw d at h' in
    by_test (x - step == u)
    (λ t. let e : x - step ≡ u = same_node (x - step) u t in (m, omega arith))
    (λ t. absurd (let z : 0 < 0 + 0 = rw t at k in omega arith)))
    (λ d. absurd (let k : 0 < tally u [] = rw d at h' in omega arith)))

within : (n x u : ℕ) → 0 < tally u (back 8 n x ++ back 9 n x) → (x < n) × (u < n)
within n x u h =
    let a : tally u (back 8 n x ++ back 9 n x) ≡ tally u (back 8 n x) + tally u (back 9 n x) = tally-append u (back 8 n x) (back 9 n x) in
    by_test (nat_lt 0 (tally u (back 8 n x)))
    (λ t. back_within 8 n x u (is_less 0 (tally u (back 8 n x)) t))
    (λ t. let z : tally u (back 8 n x) ≤ 0 = is_not_less 0 (tally u (back 8 n x)) t in back_within 9 n x u (omega arith))

back_few : (step n x : ℕ) → length (back step n x) ≤ 1
back_few step n x = by_test (nat_lt x step)
    (λ a. rw a (omega arith))
    (λ a. by_test (nat_lt x n) (λ d. rw (a, d) (omega arith)) (λ d. rw (a, d) (omega arith)))

pub rows_lawful : (n : ℕ) (ns : List ℕ) → ((x : ℕ) → tally x ns ≡ tally x (numbers_below n)) → IsLawful (rows n) ns
rows_lawful n ns e = record {
  once = λ x. let o : tally x (numbers_below n) ≤ 1 = below_once n x in let q : tally x ns ≡ tally x (numbers_below n) = e x in omega arith;
  apart = λ x y a b q.
      let ea : tally x ns ≡ tally x (numbers_below n) = e x in
      let eb : tally y ns ≡ tally y (numbers_below n) = e y in
      let l : x < n = below_only n x (omega arith) in
      let m : y < n = below_only n y (omega arith) in omega arith;
  joined = λ x u. joined n x u;
  sources = λ x u h. nodes_below n ns u e (within n x u h).1;
  sinks = λ x u h. nodes_below n ns x e (within n x u h).0;
  few = λ x.
      let a : length (back 8 n x ++ back 9 n x) ≡ length (back 8 n x) + length (back 9 n x) = length-append (back 8 n x) (back 9 n x) in
      let b : length (back 8 n x) ≤ 1 = back_few 8 n x in
      let c : length (back 9 n x) ≤ 1 = back_few 9 n x in omega arith;
}
