-- What the order is at the end of a run.
use Rattle.std.proofs.Common.{◌≡◌, ℕ, ◌+◌, ◌<◌, ◌≤◌, ◌==◌, true, false, not, ◌&&◌, cond, inl, inr, List, [], ◌∷◌, length, get_or, take, drop, refl, sym, ◌∙◌, ap, subst, arith, min}
use Rattle.std.specs.Prelude.{nat_lt}
use Rattle.std.specs.List.{filter}
use Rattle.std.proofs.lemmas.Bool.Decides.{nat_tests}
use Rattle.std.proofs.lemmas.List.{length-take, length-take-le, take-append-drop, get_or-take}
use Rattle.pd_order.proofs.Basics.{by_test, zero_or, same_node, same_test, other_node, other_test, at_tally, length_le, total_le, total-append, ltb', ltb-true', ltb-false', tally-take_le}
use Rattle.pd_order.proofs.RunLemmas.{in_front}
use Rattle.pd_order.proofs.SettleLemmas.{tally-filter}
use Rattle.pd_order.specs.Graph.{Graph, tally, missing, total, IsLawful}
use Rattle.pd_order.specs.Spots.{nowhere}
use Rattle.pd_order.specs.Work.{IsRunning, IsOld, ArePlaced, IsSeated, IsBeside, IsMet, looks_on, looks_back}

pub same_sets : (xs ys : List ℕ) → ((z : ℕ) → tally z xs ≤ 1) → ((z : ℕ) → tally z ys ≤ 1) → ((z : ℕ) → 0 < tally z xs → 0 < tally z ys) → length ys ≤ length xs → (x : ℕ) → tally x xs ≡ tally x ys
same_sets xs ys ox oy sub l x =
    let a : tally x xs ≤ 1 = ox x in let b : tally x ys ≤ 1 = oy x in
    by_test (tally x xs == 0)
    (λ t. let z : tally x xs ≡ 0 = same_node (tally x xs) 0 t in
    by_test (tally x ys == 0)
    (λ u. z ∙ sym (same_node (tally x ys) 0 u))
    (λ u. let n : tally x ys ≡ 0 → ⊥ = other_node (tally x ys) 0 u in
    let k : length (x ∷ xs) ≤ length ys = length_le (x ∷ xs) ys
    (λ y. by_test (x == y)
    (λ q. let s : x ≡ y = same_node x y q in subst (λ (v : ℕ). tally v (x ∷ xs) ≤ 1) s (rw (same_test x, z) (omega arith)))
    (λ q. let o : tally y xs ≤ 1 = ox y in rw q (omega arith)))
    (λ y h. by_test (x == y)
    (λ q. let s : x ≡ y = same_node x y q in subst (λ (v : ℕ). 0 < tally v ys) s (omega arith))
    (λ q. sub y (let h' : 0 < 0 + tally y xs = rw q at h in omega arith))) in
    absurd (omega arith)))
    (λ t. let n : tally x xs ≡ 0 → ⊥ = other_node (tally x xs) 0 t in let s : 0 < tally x ys = sub x (omega arith) in omega arith)

-- what is known of a node at the end of a run
pub record Standing (place mark was : ℕ → ℕ) (T stuck spare nodes : List ℕ) (x : ℕ) : Type 0 where
  pub listed : 0 < tally x T → (place x < nowhere) × (mark x ≤ 1) × (tally x T ≡ 1) × (tally x nodes ≡ 1)
  pub beyond : tally x T ≡ 0 → tally x nodes ≡ 0 → (tally x stuck ≡ 0) × (tally x spare ≡ 0)
  pub held : tally x T ≡ 0 → 0 < tally x nodes → place x ≡ nowhere → (tally x stuck ≡ 1) × (tally x nodes ≡ 1)
  pub left : tally x T ≡ 0 → 0 < tally x nodes → (place x ≡ nowhere → ⊥) → (tally x stuck ≡ 0) × (tally x spare ≡ 1) × (2 ≤ mark x) × (tally x nodes ≡ 1)

pub stands : (g : Graph) (nodes old T stuck : List ℕ) (from passed : ℕ) (was place mark0 mark : ℕ → ℕ) (heap spare : List ℕ) (x : ℕ) →
    IsRunning g nodes old T from passed was place mark heap spare → IsOld g nodes old from was mark0 → IsBeside g nodes old stuck was mark0 → ((y : ℕ) → 0 < mark0 y → 0 < mark y) →
    IsLawful g nodes → length nodes < nowhere → heap ≡ [] → passed ≡ length old → Standing place mark was T stuck spare nodes x
stands g nodes old T stuck from passed was place mark0 mark heap spare x r o b more law few eh ep =
    let once : tally x nodes ≤ 1 = law.once x in
    let tl : length T ≤ length nodes = length_le T nodes r.once r.inside in
    record {
      listed = λ l. let p : (place x < length T) × (get_or T (place x) 0 ≡ x) = r.placed x l in let p0 : place x < length T = p.0 in
          let i : 0 < tally x nodes = r.inside x l in let c : missing T (g.feeders x) ≡ 0 = r.closed x l in let a : tally x T ≤ 1 = r.once x in (
            omega arith,
            by_test (mark x == 0) (λ t. let z : mark x ≡ 0 = same_node (mark x) 0 t in omega arith)
                (λ t. let n : mark x ≡ 0 → ⊥ = other_node (mark x) 0 t in let m : mark x + 0 ≡ missing T (g.feeders x) + 1 = r.work.marks x (omega arith) in omega arith),
            omega arith,
            omega arith,
          );
      beyond = λ l n. (
        zero_or (tally x stuck) (λ h. let k : 0 < tally x nodes = b.held_nodes x h in absurd (omega arith)),
        zero_or (tally x spare) (λ h. let k : 0 < tally x nodes = r.work.inside x (r.work.of_spare x h) in absurd (omega arith)),
      );
      held = λ l n e. (b.held x n (sym (r.unplaced x l) ∙ e), omega arith);
      left = λ l n e. let e' : was x ≡ nowhere → ⊥ = λ q. e (r.unplaced x l ∙ q) in
          let known : 0 < mark x = elim (b.reach x n e') [
            | inl h ↦ (let i : (i : ℕ) × (i < length old) × (get_or old i 0 ≡ x) = at_tally x old h in
                by_test (ltb' i.0 from)
                (λ t. let k : 0 < tally (get_or old i.0 0) (take from old) = in_front old from i.0 (ltb-true' i.0 from t) i.1 in
                let k' : 0 < tally x (take from old) = subst (λ (v : ℕ). 0 < tally v (take from old)) i.2 k in
                let k2 : 0 < tally x (take from T) = rw r.front k' in let k3 : tally x (take from T) ≤ tally x T = tally-take_le x from T in absurd (omega arith))
                (λ t. let k : 0 < mark (get_or old i.0 0) = r.are_passed i.0 (ltb-false' i.0 from t) (let q : i.0 < length old = i.1 in omega arith) in
                subst (λ (v : ℕ). 0 < mark v) i.2 k))
            | inr h ↦ more x h
          ] in
          let not_one : mark x ≡ 1 → ⊥ = λ q. let h : 0 < tally x heap = r.work.found x l q in let h' : 0 < tally x [] = subst (λ (v : List ℕ). 0 < tally x v) eh h in absurd (omega arith) in
          let s : 0 < tally x spare = r.work.in_spare x known in let s1 : tally x spare ≤ 1 = r.work.spare_once x in
          (b.not_held x e', omega arith, by_test (mark x == 1) (λ t. absurd (not_one (same_node (mark x) 1 t))) (λ t. let q : mark x ≡ 1 → ⊥ = other_node (mark x) 1 t in omega arith), omega arith);
    }

nat_lt-true : (n : ℕ) → 2 ≤ n → nat_lt 1 n ≡ true
nat_lt-true n h = grind (arith, nat_tests)

nat_lt-false : (n : ℕ) → n ≤ 1 → nat_lt 1 n ≡ false
nat_lt-false n h = grind (arith, nat_tests)

is_yes : (n m : ℕ) → n ≡ m → (n == m) ≡ true
is_yes n m e = grind (arith, nat_tests)

-- the stuck list and the chain are all nodes
pub rest_is : (place mark was : ℕ → ℕ) (T stuck spare nodes : List ℕ) (x : ℕ) → Standing place mark was T stuck spare nodes x →
    tally x (filter (λ y. place y == nowhere) stuck) + tally x (filter (λ y. nat_lt 1 (mark y) && not (place y == nowhere)) spare) + tally x T ≡ tally x nodes
rest_is place mark was T stuck spare nodes x s =
    let f1 : tally x (filter (λ y. place y == nowhere) stuck) ≡ cond (place x == nowhere) (tally x stuck) 0 = tally-filter (λ y. place y == nowhere) x stuck in
    let f2 : tally x (filter (λ y. nat_lt 1 (mark y) && not (place y == nowhere)) spare) ≡ cond (nat_lt 1 (mark x) && not (place x == nowhere)) (tally x spare) 0 = tally-filter (λ y. nat_lt 1 (mark y) && not (place y == nowhere)) x spare in
    rw (f1, f2) (by_test (tally x T == 0)
    (λ t. let z : tally x T ≡ 0 = same_node (tally x T) 0 t in
    by_test (tally x nodes == 0)
    (λ u. let n : tally x nodes ≡ 0 = same_node (tally x nodes) 0 u in
    let q : (tally x stuck ≡ 0) × (tally x spare ≡ 0) = s.beyond z n in
    rw (q.0, q.1, z, n) (by_test (place x == nowhere) (λ a. by_test (nat_lt 1 (mark x)) (λ c. rw (a, c) refl) (λ c. rw (a, c) refl)) (λ a. by_test (nat_lt 1 (mark x)) (λ c. rw (a, c) refl) (λ c. rw (a, c) refl))))
    (λ u. let n : tally x nodes ≡ 0 → ⊥ = other_node (tally x nodes) 0 u in
    by_test (place x == nowhere)
    (λ a. let q : (tally x stuck ≡ 1) × (tally x nodes ≡ 1) = s.held z (omega arith) (same_node (place x) nowhere a) in
    by_test (nat_lt 1 (mark x)) (λ c. rw (a, c, q.0, z, q.1) refl) (λ c. rw (a, c, q.0, z, q.1) refl))
    (λ a. let q : (tally x stuck ≡ 0) × (tally x spare ≡ 1) × (2 ≤ mark x) × (tally x nodes ≡ 1) = s.left z (omega arith) (other_node (place x) nowhere a) in
    rw (a, nat_lt-true (mark x) q.2, q.1, z, q.3) refl)))
    (λ t. let n : tally x T ≡ 0 → ⊥ = other_node (tally x T) 0 t in
    let q : (place x < nowhere) × (mark x ≤ 1) × (tally x T ≡ 1) × (tally x nodes ≡ 1) = s.listed (omega arith) in
    let q0 : place x < nowhere = q.0 in
    let a : (place x == nowhere) ≡ false = other_test (place x) nowhere (λ e. absurd (omega arith)) in
    rw (a, nat_lt-false (mark x) q.1, q.2, q.3) refl))

pub seated_is : (place mark was place' : ℕ → ℕ) (T stuck spare nodes : List ℕ) → ((x : ℕ) → Standing place mark was T stuck spare nodes x) → ArePlaced T place →
    ((x : ℕ) → 0 < tally x spare → place' x ≡ cond (nat_lt 1 (mark x)) nowhere (place x)) → ((x : ℕ) → tally x spare ≡ 0 → place' x ≡ place x) → IsSeated nodes T place'
seated_is place mark was place' T stuck spare nodes s p a b = record {
  placed = λ x l. let q : (place x < nowhere) × (mark x ≤ 1) × (tally x T ≡ 1) × (tally x nodes ≡ 1) = (s x).listed l in
      let e : place' x ≡ place x = by_test (tally x spare == 0)
      (λ t. b x (same_node (tally x spare) 0 t))
      (λ t. let n : tally x spare ≡ 0 → ⊥ = other_node (tally x spare) 0 t in a x (omega arith) ∙ rw (nat_lt-false (mark x) q.1) refl) in
      rw e (p x l);
  away = λ x n l. by_test (place x == nowhere)
      (λ t. let e : place x ≡ nowhere = same_node (place x) nowhere t in by_test (tally x spare == 0)
      (λ u. b x (same_node (tally x spare) 0 u) ∙ e)
      (λ u. let m : tally x spare ≡ 0 → ⊥ = other_node (tally x spare) 0 u in a x (omega arith) ∙ by_test (nat_lt 1 (mark x)) (λ c. rw c refl) (λ c. rw (c, e) refl)))
      (λ t. let q : (tally x stuck ≡ 0) × (tally x spare ≡ 1) × (2 ≤ mark x) × (tally x nodes ≡ 1) = (s x).left l n (other_node (place x) nowhere t) in
      let q1 : tally x spare ≡ 1 = q.1 in
      a x (omega arith) ∙ rw (nat_lt-true (mark x) q.2) refl);
}

pub met_is : (g : Graph) (nodes old chain stuck : List ℕ) (from passed k : ℕ) (was place mark0 mark : ℕ → ℕ) (heap spare : List ℕ) →
    IsRunning g nodes old (take k chain) from passed was place mark heap spare → IsOld g nodes old from was mark0 → IsBeside g nodes old stuck was mark0 →
    k ≤ length chain → drop k chain ≡ drop k old → from < k → ((x : ℕ) → 0 < tally x (take k chain) → was x < k) → IsMet g nodes old chain from k was place
met_is g nodes old chain stuck from passed k was place mark0 mark heap spare r o b hk rest low far =
    let tl : length (take k chain) ≡ k = length-take-le k chain hk in
    let tn : length (take k chain) ≤ length nodes = length_le (take k chain) nodes r.once r.inside in
    let sub : (z : ℕ) → 0 < tally z (take k chain) → 0 < tally z (take k old) = λ z l.
    let f : was z < k = far z l in
    elim (b.range z (r.inside z l)) [
      | inl h ↦ (let e : get_or old (was z) 0 ≡ z = o.old_places z (r.inside z l) h in subst (λ (v : ℕ). 0 < tally v (take k old)) e (in_front old k (was z) f h))
      | inr h ↦ absurd (omega arith)
    ] in
    let ol : length (take k old) ≡ min k (length old) = length-take k old in
    let le : length (take k chain) ≤ length (take k old) = length_le (take k chain) (take k old) r.once sub in
    record {
      low = low;
      high = hk;
      high_old = omega arith;
      begun = r.built;
      front = r.front;
      on = rest;
      same = same_sets (take k chain) (take k old) r.once (λ z. let a : tally z (take k old) ≤ tally z old = tally-take_le z k old in let c : tally z old ≤ 1 = o.old_once z in omega arith) sub (omega arith);
      front_placed = λ x l. let p : (place x < length (take k chain)) × (get_or (take k chain) (place x) 0 ≡ x) = r.placed x l in
          let p0 : place x < length (take k chain) = p.0 in
          (omega arith, sym (get_or-take k chain (place x) 0 (omega arith)) ∙ p.1);
      rest_placed = λ x l. r.unplaced x l;
    }

pub met_placed : (g : Graph) (nodes old chain : List ℕ) (from k : ℕ) (was place place' : ℕ → ℕ) → IsMet g nodes old chain from k was place → ((x : ℕ) → place' x ≡ place x) → IsMet g nodes old chain from k was place'
met_placed g nodes old chain from k was place place' m e = record {
  low = m.low;
  high = m.high;
  high_old = m.high_old;
  begun = m.begun;
  front = m.front;
  on = m.on;
  same = m.same;
  front_placed = λ x l. rw (e x) (m.front_placed x l);
  rest_placed = λ x l. e x ∙ m.rest_placed x l;
}

total_drop_le : (f : ℕ → ℕ) (n : ℕ) (xs : List ℕ) → total f (drop n xs) ≤ total f xs
total_drop_le f n xs = let e : total f xs ≡ total f (take n xs) + total f (drop n xs) = ap (total f) (sym (take-append-drop n xs)) ∙ total-append f (take n xs) (drop n xs) in omega arith

-- no more is looked at than all nodes
pub looked : (g : Graph) (nodes old T : List ℕ) (from passed : ℕ) (was place mark : ℕ → ℕ) (heap spare : List ℕ) →
    IsRunning g nodes old T from passed was place mark heap spare → (total (looks_on g) (drop from T) ≤ total (looks_on g) nodes) × (total (looks_back g) spare ≤ total (looks_back g) nodes)
looked g nodes old T from passed was place mark heap spare r =
    let a : total (looks_on g) (drop from T) ≤ total (looks_on g) T = total_drop_le (looks_on g) from T in
    let b : total (looks_on g) T ≤ total (looks_on g) nodes = total_le (looks_on g) T nodes r.once r.inside in
    (omega arith, total_le (looks_back g) spare nodes r.work.spare_once (λ z l. r.work.inside z (r.work.of_spare z l)))
