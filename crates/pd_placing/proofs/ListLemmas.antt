-- Lists without one of their keys, and labels that rise along them.
use Rattle.std.proofs.Common.{arith, ◌≡◌, ◌≢◌, ℕ, zero, suc, ◌+◌, ◌<◌, ◌≤◌, ◌==◌, Bool, true, false, cond, List, [], ◌∷◌, ◌++◌, length, filter, refl, sym, ap, ◌∙◌, subst}
use Rattle.std.specs.Prelude.{Some, slice_get, ◌↔◌}
use Rattle.std.proofs.lemmas.Option.{none-some, same_Some}
use Rattle.pd_order.specs.Graph.{tally, take_out}
use Rattle.pd_order.proofs.Basics.{by_test, zero_or, same_node, same_test, other_node, other_test, in_rest, tally-append, tally-take_out, ltb', ltb-true', ltb-false'}
use Rattle.pd_label.specs.Labels.{label_of, Rise}

-- Keys taken out.

-- a list without the key stays as it is
pub away_stays : (k : ℕ) (xs : List ℕ) → tally k xs ≡ 0 → take_out k xs ≡ xs
away_stays k [] h = refl
away_stays k (x ∷ xs) h = by_test (x == k)
    (λ t. let n : 1 + tally k xs ≡ 0 = rw t at h in absurd (omega (arith, n)))
    (λ f. let n : 0 + tally k xs ≡ 0 = rw f at h in let rest = away_stays k xs (omega (arith, n)) in rw f (ap (λ (ys : List ℕ). x ∷ ys) rest))

-- between others the key is taken out
pub between_out : (k : ℕ) (xs ys : List ℕ) → tally k xs ≡ 0 → take_out k (xs ++ k ∷ ys) ≡ xs ++ ys
between_out k [] ys h = rw (same_test k) refl
between_out k (x ∷ xs) ys h = by_test (x == k)
    (λ t. let n : 1 + tally k xs ≡ 0 = rw t at h in absurd (omega (arith, n)))
    (λ f. let n : 0 + tally k xs ≡ 0 = rw f at h in let rest = between_out k xs ys (omega (arith, n)) in rw f (ap (λ (zs : List ℕ). x ∷ zs) rest))

-- what is left is as often in the list at most
pub fewer_left : (k x : ℕ) (xs : List ℕ) → tally x (take_out k xs) ≤ tally x xs
fewer_left k x [] = omega arith
fewer_left k x (y ∷ xs) = let rest = fewer_left k x xs in by_test (y == k)
    (λ t. rw t (omega arith))
    (λ f. rw f (omega (arith, rest)))

-- what doesn't pass isn't left
pub none_passing : (p : ℕ → Bool) (k : ℕ) (xs : List ℕ) → p k ≡ false → tally k (filter p xs) ≡ 0
none_passing p k [] h = refl
none_passing p k (x ∷ xs) h = let rest = none_passing p k xs h in by_test (p x)
    (λ t. let differ : x ≡ k → ⊥ = (λ (e : x ≡ k). both (p k) (ap p (sym e) ∙ t) h) in rw (t, other_test x k differ) (omega (arith, rest)))
    (λ f. rw f rest) where
      both : (b : Bool) → b ≡ true → b ≡ false → ⊥
      both b s t = cc

-- of those that pass, and of all, the same is taken out
pub out_passing : (p : ℕ → Bool) (k : ℕ) (xs : List ℕ) → take_out k (filter p xs) ≡ filter p (take_out k xs)
out_passing p k [] = refl
out_passing p k (x ∷ xs) = let rest = out_passing p k xs in by_test (p x)
    (λ t. by_test (x == k)
    (λ s. rw (t, s) refl)
    (λ s. rw (t, s, t) (ap (λ (ys : List ℕ). x ∷ ys) rest)))
    (λ f. by_test (x == k)
    (λ s. let no : p k ≡ false = ap p (sym (same_node x k s)) ∙ f in let away = away_stays k (filter p xs) (none_passing p k xs no) in rw (f, s) away)
    (λ s. rw (f, s, f) rest))

-- the same pass
pub same_passing : (p q : ℕ → Bool) (xs : List ℕ) → ((x : ℕ) → 0 < tally x xs → q x ≡ p x) → filter q xs ≡ filter p xs
same_passing p q [] h = refl
same_passing p q (x ∷ xs) h =
    let first : q x ≡ p x = h x (rw (same_test x) (omega arith)) in
    let rest : filter q xs ≡ filter p xs = same_passing p q xs (λ y l. h y (omega (arith, l))) in
    by_test (p x)
    (λ t. let s : q x ≡ true = first ∙ t in rw (t, s) (ap (λ (ys : List ℕ). x ∷ ys) rest))
    (λ f. let s : q x ≡ false = first ∙ f in rw (f, s) rest)

-- the key that is taken out is counted once less
pub out_counted : (k : ℕ) (xs : List ℕ) → 0 < tally k xs → (x : ℕ) → tally x xs ≡ tally x (k ∷ take_out k xs)
out_counted k xs h x = let e = tally-take_out x k xs h in omega (arith, e)

-- and a key that stands once is gone
pub out_gone : (k : ℕ) (xs : List ℕ) → tally k xs ≤ 1 → tally k (take_out k xs) ≡ 0
out_gone k xs h = zero_or (tally k (take_out k xs)) (λ l.
    let m = fewer_left k k xs in
    let a : tally k xs ≡ cond (k == k) 1 0 + tally k (take_out k xs) = out_counted k xs (omega (arith, l, m)) k in
    let b : tally k xs ≡ 1 + tally k (take_out k xs) = rw (same_test k) at a in absurd (omega (arith, b, h, l)))

-- Labels.

rise_rest : (labels : List ℕ) (x : ℕ) (xs : List ℕ) → Rise labels (x ∷ xs) → Rise labels xs
rise_rest labels x xs R = λ i j a b l at bt. R (suc i) (suc j) a b (omega (arith, l)) at bt

place_of_key : (x : ℕ) (xs : List ℕ) → 0 < tally x xs → (i : ℕ) × (slice_get xs i ≡ Some x)
place_of_key x [] h = absurd (omega (arith, h))
place_of_key x (y ∷ xs) h = by_test (y == x)
    (λ t. (0, ap (λ z. Some z) (same_node y x t)))
    (λ f. let p = place_of_key x xs (in_rest x y xs f h) in (suc p.0, p.1))

key_of_place : (x : ℕ) (xs : List ℕ) (i : ℕ) → slice_get xs i ≡ Some x → 0 < tally x xs
key_of_place x [] i h = absurd (none-some x h)
key_of_place x (y ∷ xs) zero h = let e : y ≡ x = same_Some y x h in subst (λ (z : ℕ). 0 < tally z (y ∷ xs)) e (rw (same_test y) (omega arith))
key_of_place x (y ∷ xs) (suc i) h = let rest = key_of_place x xs i h in omega (arith, rest)

rise_joined : (labels : List ℕ) (x : ℕ) (xs : List ℕ) → ((y : ℕ) → 0 < tally y xs → label_of labels x < label_of labels y) → Rise labels xs → Rise labels (x ∷ xs)
rise_joined labels x xs first R = λ i j a b l at bt. go i j a b l at bt where
  go : (i j a b : ℕ) → i < j → slice_get (x ∷ xs) i ≡ Some a → slice_get (x ∷ xs) j ≡ Some b → label_of labels a < label_of labels b
  go i zero a b l at bt = absurd (omega (arith, l))
  go zero (suc j) a b l at bt = let e : x ≡ a = same_Some x a at in subst (λ (y : ℕ). label_of labels y < label_of labels b) e (first b (key_of_place b xs j bt))
  go (suc i) (suc j) a b l at bt = R i j a b (omega (arith, l)) at bt

-- labels rise along what is left
pub rise_left : (labels : List ℕ) (k : ℕ) (xs : List ℕ) → Rise labels xs → Rise labels (take_out k xs)
rise_left labels k [] R = R
rise_left labels k (x ∷ xs) R = by_test (x == k)
    (λ t. rw t (rise_rest labels x xs R))
    (λ f. rw f (rise_joined labels x (take_out k xs)
    (λ y l. let m = fewer_left k y xs in let p = place_of_key y xs (omega (arith, l, m)) in R 0 (suc p.0) x y (omega arith) refl p.1)
    (rise_left labels k xs (rise_rest labels x xs R))))

-- along keys whose labels rise, a smaller label stands earlier
pub label_before : (labels keys : List ℕ) (i j x y : ℕ) → Rise labels keys → slice_get keys i ≡ Some x → slice_get keys j ≡ Some y → label_of labels x < label_of labels y → i < j
label_before labels keys i j x y R at bt h = by_test (ltb' i j)
    (λ t. ltb-true' i j t)
    (λ f. let l : j ≤ i = ltb-false' i j f in by_test (ltb' j i)
    (λ t. let m : label_of labels y < label_of labels x = R j i y x (ltb-true' j i t) bt at in absurd (omega (arith, h, m)))
    (λ u. let m : i ≤ j = ltb-false' j i u in
    let same : i ≡ j = omega (arith, l, m) in
    let one : x ≡ y = same_Some x y (sym at ∙ ap (slice_get keys) same ∙ bt) in
    let e : label_of labels x ≡ label_of labels y = ap (label_of labels) one in absurd (omega (arith, h, e))))

-- two lists of labels that rise along the same keys rank them alike
pub ranked_alike : (labels others keys : List ℕ) (x y : ℕ) → Rise labels keys → Rise others keys → 0 < tally x keys → 0 < tally y keys
    → (label_of labels x < label_of labels y) ↔ (label_of others x < label_of others y)
ranked_alike labels others keys x y R S h k =
    let p = place_of_key x keys h in
    let q = place_of_key y keys k in (
      λ l. S p.0 q.0 x y (label_before labels keys p.0 q.0 x y R p.1 q.1 l) p.1 q.1,
      λ l. R p.0 q.0 x y (label_before others keys p.0 q.0 x y S p.1 q.1 l) p.1 q.1,
    )
