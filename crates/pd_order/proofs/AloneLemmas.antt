-- Orders with and without a node that has no wires.
use Rattle.std.proofs.Common.{◌≡◌, ℕ, zero, suc, ◌+◌, ◌<◌, ◌≤◌, ◌==◌, true, false, cond, List, [], ◌∷◌, ◌++◌, length, get_or, take, drop, refl, sym, ◌∙◌, ap, subst, arith}
use Rattle.std.proofs.lemmas.List.{take-append-drop, take_more, drop_more, take_all}
use Rattle.pd_order.proofs.Basics.{by_test, zero_or, same_node, same_test, other_node, other_test, tally-append, at_tally, missing_le, ltb', ltb-true', ltb-false'}
use Rattle.pd_order.proofs.RunLemmas.{in_front}
use Rattle.pd_order.proofs.SettleLemmas.{tally-insert}
use Rattle.pd_order.proofs.OrderLemmas.{AreNext_split, AreNext_join, front_chain, next_at, chain_inside}
use Rattle.pd_order.specs.Graph.{Graph, tally, missing, take_out, IsAlone, IsLawful, IsReady, IsNext, AreNext, IsOrder}

-- ys has what xs has, and one more y
pub record Adds (y : ℕ) (xs ys : List ℕ) : Type 0 where
  pub more : (z : ℕ) → tally z ys ≡ tally z (y ∷ xs)

pub adds_le : (y : ℕ) (xs ys : List ℕ) (z : ℕ) → Adds y xs ys → tally z xs ≤ tally z ys
adds_le y xs ys z a = let m : tally z ys ≡ tally z (y ∷ xs) = a.more z in omega arith

pub adds_other : (y : ℕ) (xs ys : List ℕ) (z : ℕ) → Adds y xs ys → (y ≡ z → ⊥) → tally z ys ≡ tally z xs
adds_other y xs ys z a n =
    let m : tally z ys ≡ cond (y == z) 1 0 + tally z xs = a.more z in
    let k : tally z ys ≡ cond false 1 0 + tally z xs = rw (other_test y z n) at m in omega arith

pub adds_there : (y : ℕ) (xs ys : List ℕ) → Adds y xs ys → tally y ys ≡ tally y xs + 1
adds_there y xs ys a =
    let m : tally y ys ≡ cond (y == y) 1 0 + tally y xs = a.more y in
    let k : tally y ys ≡ 1 + tally y xs = rw (same_test y) at m in omega arith

pub adds_push : (y x : ℕ) (xs ys : List ℕ) → Adds y xs ys → Adds y (xs ++ x ∷ []) (ys ++ x ∷ [])
adds_push y x xs ys a = record {
  more = λ z.
      let m : tally z ys ≡ tally z (y ∷ xs) = a.more z in
      let p : tally z (xs ++ x ∷ []) ≡ tally z xs + tally z (x ∷ []) = tally-append z xs (x ∷ []) in
      let q : tally z (ys ++ x ∷ []) ≡ tally z ys + tally z (x ∷ []) = tally-append z ys (x ∷ []) in omega arith;
}

pub adds_insert : (y : ℕ) (xs : List ℕ) (i : ℕ) → Adds y xs (take i xs ++ y ∷ drop i xs)
adds_insert y xs i = record { more = λ z. tally-insert z y xs i }

pub adds_at : (y : ℕ) (xs : List ℕ) (i : ℕ) → i < length xs → get_or xs i 0 ≡ y → Adds y (take i xs ++ drop (i + 1) xs) xs
adds_at y xs i l e = record {
  more = λ z.
      let a : tally z xs ≡ tally z (take i xs) + tally z (drop i xs) = ap (tally z) (sym (take-append-drop i xs)) ∙ tally-append z (take i xs) (drop i xs) in
      let b : tally z (drop i xs) ≡ tally z (get_or xs i 0 ∷ drop (i + 1) xs) = ap (tally z) (drop_more xs i 0 l) in
      let b' : tally z (drop i xs) ≡ tally z (y ∷ drop (i + 1) xs) = subst (λ (v : ℕ). tally z (drop i xs) ≡ tally z (v ∷ drop (i + 1) xs)) e b in
      let d : tally z (take i xs ++ drop (i + 1) xs) ≡ tally z (take i xs) + tally z (drop (i + 1) xs) = tally-append z (take i xs) (drop (i + 1) xs) in omega arith;
}

-- a node without followers feeds none
pub feeds_none : (g : Graph) (ns : List ℕ) (y x : ℕ) → IsLawful g ns → IsAlone g y → tally y (g.feeders x) ≡ 0
feeds_none g ns y x law al = law.joined x y ∙ ap (tally x) al.unfollowed

missing-adds : (y : ℕ) (xs ys us : List ℕ) → Adds y xs ys → tally y us ≡ 0 → missing ys us ≡ missing xs us
missing-adds y xs ys us a z =
    let p : missing ys us ≤ missing xs us = missing_le xs ys us (λ u _ l. let k : tally u xs ≤ tally u ys = adds_le y xs ys u a in omega arith) in
    let q : missing xs us ≤ missing ys us = missing_le ys xs us (λ u m l.
    let n : y ≡ u → ⊥ = λ e. let m' : 0 < tally y us = subst (λ (v : ℕ). 0 < tally v us) (sym e) m in absurd (omega arith) in
    let k : tally u ys ≡ tally u xs = adds_other y xs ys u a n in omega arith) in omega arith

ready_with : (g : Graph) (y : ℕ) (ns ms T U : List ℕ) (z : ℕ) → ((x : ℕ) → tally y (g.feeders x) ≡ 0) → Adds y ns ms → Adds y T U → (y ≡ z → ⊥) → IsReady g ns T z → IsReady g ms U z
ready_with g y ns ms T U z none a b n r = record {
  node = (let k : tally z ns ≤ tally z ms = adds_le y ns ms z a in let m : 0 < tally z ns = r.node in omega arith);
  unlisted = adds_other y T U z b n ∙ r.unlisted;
  fed = missing-adds y T U (g.feeders z) b (none z) ∙ r.fed;
}

ready_without : (g : Graph) (y : ℕ) (ns ms T U : List ℕ) (z : ℕ) → ((x : ℕ) → tally y (g.feeders x) ≡ 0) → Adds y ns ms → Adds y T U → (y ≡ z → ⊥) → IsReady g ms U z → IsReady g ns T z
ready_without g y ns ms T U z none a b n r = record {
  node = (let k : tally z ms ≡ tally z ns = adds_other y ns ms z a n in let m : 0 < tally z ms = r.node in omega arith);
  unlisted = sym (adds_other y T U z b n) ∙ r.unlisted;
  fed = sym (missing-adds y T U (g.feeders z) b (none z)) ∙ r.fed;
}

-- what is among the other nodes isn't y, and what isn't listed when y is isn't y
other_of : (y z : ℕ) (ns : List ℕ) → tally y ns ≡ 0 → 0 < tally z ns → y ≡ z → ⊥
other_of y z ns f l e = let q : tally z ns ≡ 0 = subst (λ (v : ℕ). tally v ns ≡ 0) e f in absurd (omega arith)

other_than : (y z : ℕ) (T U : List ℕ) → Adds y T U → tally z U ≡ 0 → y ≡ z → ⊥
other_than y z T U b u e =
    let k : tally y U ≡ tally y T + 1 = adds_there y T U b in
    let q : tally y U ≡ 0 = subst (λ (v : ℕ). tally v U ≡ 0) (sym e) u in absurd (omega arith)

next_with : (g : Graph) (y : ℕ) (ns ms T U : List ℕ) (x : ℕ) → ((x : ℕ) → tally y (g.feeders x) ≡ 0) → Adds y ns ms → Adds y T U → tally y ns ≡ 0 → IsNext g ns T x → IsNext g ms U x
next_with g y ns ms T U x none a b f n = record {
  ready = ready_with g y ns ms T U x none a b (other_of y x ns f n.ready.node) n.ready;
  least = λ z r. n.least z (ready_without g y ns ms T U z none a b (other_than y z T U b r.unlisted) r);
}

next_without : (g : Graph) (y : ℕ) (ns ms T U : List ℕ) (x : ℕ) → ((x : ℕ) → tally y (g.feeders x) ≡ 0) → Adds y ns ms → Adds y T U → tally y ns ≡ 0 → IsNext g ms U x → IsNext g ns T x
next_without g y ns ms T U x none a b f n = record {
  ready = ready_without g y ns ms T U x none a b (other_than y x T U b n.ready.unlisted) n.ready;
  least = λ z r. n.least z (ready_with g y ns ms T U z none a b (other_of y z ns f r.node) r);
}

AreNext_with : (g : Graph) (y : ℕ) (ns ms T U xs : List ℕ) → ((x : ℕ) → tally y (g.feeders x) ≡ 0) → Adds y ns ms → Adds y T U → tally y ns ≡ 0 → AreNext g ns T xs → AreNext g ms U xs
AreNext_with g y ns ms T U [] none a b f n = tt
AreNext_with g y ns ms T U (x ∷ xs) none a b f n = (
  next_with g y ns ms T U x none a b f n.0,
  AreNext_with g y ns ms (T ++ x ∷ []) (U ++ x ∷ []) xs none a (adds_push y x T U b) f n.1,
)

AreNext_without : (g : Graph) (y : ℕ) (ns ms T U xs : List ℕ) → ((x : ℕ) → tally y (g.feeders x) ≡ 0) → Adds y ns ms → Adds y T U → tally y ns ≡ 0 → AreNext g ms U xs → AreNext g ns T xs
AreNext_without g y ns ms T U [] none a b f n = tt
AreNext_without g y ns ms T U (x ∷ xs) none a b f n = (
  next_without g y ns ms T U x none a b f n.0,
  AreNext_without g y ns ms (T ++ x ∷ []) (U ++ x ∷ []) xs none a (adds_push y x T U b) f n.1,
)

-- with more nodes, what is next stays so where the new one has a higher rank
next_before : (g : Graph) (y : ℕ) (ns T : List ℕ) (x : ℕ) → g.rank x ≤ g.rank y → IsNext g ns T x → IsNext g (y ∷ ns) T x
next_before g y ns T x h n = record {
  ready = record { node = (let m : 0 < tally x ns = n.ready.node in omega arith); unlisted = n.ready.unlisted; fed = n.ready.fed };
  least = λ z r. by_test (y == z)
      (λ t. subst (λ (v : ℕ). g.rank x ≤ g.rank v) (same_node y z t) h)
      (λ t. n.least z (record { node = (let m : 0 < cond (y == z) 1 0 + tally z ns = r.node in let k : 0 < cond false 1 0 + tally z ns = rw t at m in omega arith); unlisted = r.unlisted; fed = r.fed }));
}

next_fewer : (g : Graph) (y : ℕ) (ns ms T : List ℕ) (x : ℕ) → Adds y ns ms → (y ≡ x → ⊥) → IsNext g ms T x → IsNext g ns T x
next_fewer g y ns ms T x a e n = record {
  ready = record { node = (let k : tally x ms ≡ tally x ns = adds_other y ns ms x a e in let m : 0 < tally x ms = n.ready.node in omega arith); unlisted = n.ready.unlisted; fed = n.ready.fed };
  least = λ z r. n.least z (record { node = (let k : tally z ns ≤ tally z ms = adds_le y ns ms z a in let m : 0 < tally z ns = r.node in omega arith); unlisted = r.unlisted; fed = r.fed });
}

-- where the node joins the chain, it is the next
joins_next : (g : Graph) (y : ℕ) (ns C : List ℕ) (p : ℕ) → IsAlone g y → tally y ns ≡ 0 → AreNext g ns [] C → ((x : ℕ) → IsReady g ns C x → ⊥) → p ≤ length C → (p < length C → g.rank y ≤ g.rank (get_or C p 0)) → IsNext g (y ∷ ns) (take p C) y
joins_next g y ns C p al f a ended lp behind =
    let not_there : (xs : List ℕ) → ((z : ℕ) → 0 < tally z xs → 0 < tally z ns) → tally y xs ≡ 0 = λ xs h. zero_or (tally y xs) (λ l. let k : 0 < tally y ns = h y l in absurd (omega arith)) in
    let split : (z : ℕ) → tally z C ≡ tally z (take p C) + tally z (drop p C) = λ z. ap (tally z) (sym (take-append-drop p C)) ∙ tally-append z (take p C) (drop p C) in
    record {
      ready = record {
        node = rw (same_test y) (omega arith);
        unlisted = not_there (take p C) (λ z l. chain_inside g ns C z a (let s : tally z C ≡ tally z (take p C) + tally z (drop p C) = split z in omega arith));
        fed = rw al.unfed refl;
      };
      least = λ z r. by_test (y == z)
          (λ t. subst (λ (v : ℕ). g.rank y ≤ g.rank v) (same_node y z t) (le_same (g.rank y)))
          (λ t. let r0 : IsReady g ns (take p C) z = record { node = (let m : 0 < cond (y == z) 1 0 + tally z ns = r.node in let k : 0 < cond false 1 0 + tally z ns = rw t at m in omega arith); unlisted = r.unlisted; fed = r.fed } in
          by_test (ltb' p (length C))
          (λ u. let l : p < length C = ltb-true' p (length C) u in
          let m : g.rank (get_or C p 0) ≤ g.rank z = (next_at g ns C p a l).least z r0 in
          let b : g.rank y ≤ g.rank (get_or C p 0) = behind l in omega arith)
          (λ u. absurd (ended z (subst (λ (T : List ℕ). IsReady g ns T z) (take_all p C (ltb-false' p (length C) u)) r0))));
    }
  where
    le_same : (n : ℕ) → n ≤ n
    le_same n = omega arith

-- the order with the node
pub order_with : (g : Graph) (y : ℕ) (ns C stuck : List ℕ) (p : ℕ) → IsLawful g (y ∷ ns) → IsAlone g y → tally y ns ≡ 0 → IsOrder g ns C stuck → p ≤ length C →
    ((k : ℕ) → k < p → g.rank (get_or C k 0) ≤ g.rank y) → (p < length C → g.rank y ≤ g.rank (get_or C p 0)) → IsOrder g (y ∷ ns) (take p C ++ y ∷ drop p C) stuck
order_with g y ns C stuck p law al f o lp before behind =
    let none : (x : ℕ) → tally y (g.feeders x) ≡ 0 = λ x. feeds_none g (y ∷ ns) y x law al in
    let nodes : Adds y ns (y ∷ ns) = record { more = λ z. refl } in
    let split : AreNext g ns [] (take p C) × AreNext g ns (take p C) (drop p C) = AreNext_split g ns [] (take p C) (drop p C) (subst (λ (l : List ℕ). AreNext g ns [] l) (sym (take-append-drop p C)) o.listed) in
    let front : AreNext g (y ∷ ns) [] (take p C) = front_chain g (y ∷ ns) C p lp (λ k h. next_before g y ns (take k C) (get_or C k 0) (before k h) (next_at g ns C k o.listed (omega arith))) in
    let grown : Adds y (take p C) (take p C ++ y ∷ []) = record { more = λ z. let q : tally z (take p C ++ y ∷ []) ≡ tally z (take p C) + tally z (y ∷ []) = tally-append z (take p C) (y ∷ []) in omega arith } in
    record {
      listed = AreNext_join g (y ∷ ns) [] (take p C) (y ∷ drop p C) front
          (joins_next g y ns C p al f o.listed o.ended lp behind, AreNext_with g y ns (y ∷ ns) (take p C) (take p C ++ y ∷ []) (drop p C) none nodes grown f split.1);
      ended = λ x r. o.ended x (ready_without g y ns (y ∷ ns) C (take p C ++ y ∷ drop p C) x none nodes (adds_insert y C p) (other_than y x C (take p C ++ y ∷ drop p C) (adds_insert y C p) r.unlisted) r);
      rest = λ x. let a : tally x (take p C ++ y ∷ drop p C) ≡ tally x (y ∷ C) = tally-insert x y C p in let b : tally x stuck + tally x C ≡ tally x ns = o.rest x in omega arith;
      by_rank = o.by_rank;
    }

-- the order without the node
pub order_without : (g : Graph) (y : ℕ) (ns ms C stuck : List ℕ) (p : ℕ) → IsLawful g ms → IsAlone g y → Adds y ns ms → IsOrder g ms C stuck → p < length C → get_or C p 0 ≡ y → IsOrder g ns (take p C ++ drop (p + 1) C) stuck
order_without g y ns ms C stuck p law al a o l e =
    let none : (x : ℕ) → tally y (g.feeders x) ≡ 0 = λ x. feeds_none g ms y x law al in
    let f : tally y ns ≡ 0 = (let q : tally y ms ≡ tally y ns + 1 = adds_there y ns ms a in let u : tally y ms ≤ 1 = law.once y in omega arith) in
    let listed : tally y (take p C) ≡ 0 = subst (λ (v : ℕ). tally v (take p C) ≡ 0) e ((next_at g ms C p o.listed l).ready.unlisted) in
    let front : AreNext g ns [] (take p C) = front_chain g ns C p (omega arith) (λ k h. next_fewer g y ns ms (take k C) (get_or C k 0) a
    (λ q. let t : 0 < tally (get_or C k 0) (take p C) = in_front C p k h (omega arith) in let t' : 0 < tally y (take p C) = subst (λ (v : ℕ). 0 < tally v (take p C)) (sym q) t in absurd (omega arith))
    (next_at g ms C k o.listed (omega arith))) in
    let grown : Adds y (take p C) (take (p + 1) C) = record {
      more = λ z.
          let q : tally z (take (p + 1) C) ≡ tally z (take p C ++ get_or C p 0 ∷ []) = ap (tally z) (take_more C p 0 l) in
          let q' : tally z (take (p + 1) C) ≡ tally z (take p C ++ y ∷ []) = subst (λ (v : ℕ). tally z (take (p + 1) C) ≡ tally z (take p C ++ v ∷ [])) e q in
          let r : tally z (take p C ++ y ∷ []) ≡ tally z (take p C) + tally z (y ∷ []) = tally-append z (take p C) (y ∷ []) in omega arith;
    } in
    let split : AreNext g ms [] (take (p + 1) C) × AreNext g ms (take (p + 1) C) (drop (p + 1) C) = AreNext_split g ms [] (take (p + 1) C) (drop (p + 1) C) (subst (λ (l : List ℕ). AreNext g ms [] l) (sym (take-append-drop (p + 1) C)) o.listed) in
    record {
      listed = AreNext_join g ns [] (take p C) (drop (p + 1) C) front (AreNext_without g y ns ms (take p C) (take (p + 1) C) (drop (p + 1) C) none a grown f split.1);
      ended = λ x r. o.ended x (ready_with g y ns ms (take p C ++ drop (p + 1) C) C x none a (adds_at y C p l e) (other_of y x ns f r.node) r);
      rest = λ x. let m : tally x C ≡ tally x (y ∷ (take p C ++ drop (p + 1) C)) = (adds_at y C p l e).more x in let b : tally x stuck + tally x C ≡ tally x ms = o.rest x in let d : tally x ms ≡ tally x (y ∷ ns) = a.more x in omega arith;
      by_rank = o.by_rank;
    }

pub take_out_at : (y : ℕ) (xs : List ℕ) (i : ℕ) → i < length xs → get_or xs i 0 ≡ y → tally y (take i xs) ≡ 0 → take_out y xs ≡ take i xs ++ drop (i + 1) xs
take_out_at y [] i l e z = absurd (omega arith)
take_out_at y (x ∷ xs) zero l e z = let t : (x == y) ≡ true = rw (← e) (same_test x) in rw t refl
take_out_at y (x ∷ xs) (suc i) l e z =
    let s : suc i + 1 ≡ suc (i + 1) = omega arith in
    by_test (x == y)
    (λ t. absurd (let k : cond (x == y) 1 0 + tally y (take i xs) ≡ 0 = z in let k' : 1 + tally y (take i xs) ≡ 0 = rw t at k in omega arith))
    (λ t. let ih : take_out y xs ≡ take i xs ++ drop (i + 1) xs = take_out_at y xs i (omega arith) e (omega arith) in rw (t, s) (ap (λ (v : List ℕ). x ∷ v) ih))

-- a node without wires stands in the chain
pub alone_listed : (g : Graph) (y : ℕ) (ns C stuck : List ℕ) → IsOrder g ns C stuck → IsAlone g y → 0 < tally y ns → 0 < tally y C
alone_listed g y ns C stuck o al h = by_test (tally y C == 0)
    (λ t. absurd (o.ended y (record { node = h; unlisted = same_node (tally y C) 0 t; fed = rw al.unfed refl })))
    (λ t. let n : tally y C ≡ 0 → ⊥ = other_node (tally y C) 0 t in omega arith)

pub order_taken_out : (g : Graph) (y : ℕ) (ns ms C stuck : List ℕ) → IsLawful g ms → IsAlone g y → Adds y ns ms → 0 < tally y C → IsOrder g ms C stuck → IsOrder g ns (take_out y C) stuck
order_taken_out g y ns ms C stuck law al a h o =
    let i : (i : ℕ) × (i < length C) × (get_or C i 0 ≡ y) = at_tally y C h in
    let z : tally y (take i.0 C) ≡ 0 = subst (λ (v : ℕ). tally v (take i.0 C) ≡ 0) i.2 ((next_at g ms C i.0 o.listed i.1).ready.unlisted) in
    subst (λ (l : List ℕ). IsOrder g ns l stuck) (sym (take_out_at y C i.0 i.1 i.2 z)) (order_without g y ns ms C stuck i.0 law al a o i.1 i.2)
