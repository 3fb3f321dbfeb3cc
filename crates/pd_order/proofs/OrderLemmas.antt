-- Chains over lists.
use Rattle.std.proofs.Common.{◌≡◌, ℕ, zero, suc, ◌+◌, ◌<◌, ◌≤◌, ◌==◌, List, [], ◌∷◌, ◌++◌, length, get_or, take, refl, sym, ◌∙◌, subst, arith, append_assoc}
use Rattle.std.proofs.lemmas.List.{append-nil, length-take-le, take_all, take-take, get_or-take}
use Rattle.pd_order.proofs.Basics.{by_test, zero_or, same_node, other_node, tally-append, tally-push_same, tally-push_other, tally-push_le, at_tally, missing_le, tally-take_le}
use Rattle.pd_order.specs.Graph.{Graph, tally, missing, IsReady, IsNext, AreNext, IsLawful}
use Rattle.pd_order.specs.Work.{IsWaiting}

pub missing_same : (a b us : List ℕ) → ((u : ℕ) → tally u a ≡ tally u b) → missing a us ≡ missing b us
missing_same a b [] h = refl
missing_same a b (u ∷ us) h = let e : missing a us ≡ missing b us = missing_same a b us h in rw (h u, e) refl

pub ready_nodes : (g : Graph) (ns ms T : List ℕ) (x : ℕ) → ((y : ℕ) → tally y ns ≡ tally y ms) → IsReady g ns T x → IsReady g ms T x
ready_nodes g ns ms T x h r = record { node = rw (← h x) r.node; unlisted = r.unlisted; fed = r.fed }

pub next_nodes : (g : Graph) (ns ms T : List ℕ) (x : ℕ) → ((y : ℕ) → tally y ns ≡ tally y ms) → IsNext g ns T x → IsNext g ms T x
next_nodes g ns ms T x h n = record { ready = ready_nodes g ns ms T x h n.ready; least = λ y r. n.least y (ready_nodes g ms ns T y (λ z. sym (h z)) r) }

pub AreNext_nodes : (g : Graph) (ns ms done xs : List ℕ) → ((y : ℕ) → tally y ns ≡ tally y ms) → AreNext g ns done xs → AreNext g ms done xs
AreNext_nodes g ns ms done [] h a = a
AreNext_nodes g ns ms done (x ∷ xs) h a = (next_nodes g ns ms done x h a.0, AreNext_nodes g ns ms (done ++ x ∷ []) xs h a.1)

pub AreNext_split : (g : Graph) (ns done xs ys : List ℕ) → AreNext g ns done (xs ++ ys) → AreNext g ns done xs × AreNext g ns (done ++ xs) ys
AreNext_split g ns done [] ys a = (tt, subst (λ (l : List ℕ). AreNext g ns l ys) (sym (append-nil done)) a)
AreNext_split g ns done (x ∷ xs) ys a =
    let r : AreNext g ns (done ++ x ∷ []) xs × AreNext g ns ((done ++ x ∷ []) ++ xs) ys = AreNext_split g ns (done ++ x ∷ []) xs ys a.1 in
    ((a.0, r.0), subst (λ (l : List ℕ). AreNext g ns l ys) (append_assoc done (x ∷ []) xs) r.1)

pub AreNext_join : (g : Graph) (ns done xs ys : List ℕ) → AreNext g ns done xs → AreNext g ns (done ++ xs) ys → AreNext g ns done (xs ++ ys)
AreNext_join g ns done [] ys a b = subst (λ (l : List ℕ). AreNext g ns l ys) (append-nil done) b
AreNext_join g ns done (x ∷ xs) ys a b = (a.0, AreNext_join g ns (done ++ x ∷ []) xs ys a.1 (subst (λ (l : List ℕ). AreNext g ns l ys) (sym (append_assoc done (x ∷ []) xs)) b))

next_in : (g : Graph) (ns done xs : List ℕ) (i : ℕ) → AreNext g ns done xs → i < length xs → IsNext g ns (done ++ take i xs) (get_or xs i 0)
next_in g ns done [] i a h = absurd (omega arith)
next_in g ns done (x ∷ xs) zero a h = subst (λ (l : List ℕ). IsNext g ns l x) (sym (append-nil done)) a.0
next_in g ns done (x ∷ xs) (suc i) a h = subst (λ (l : List ℕ). IsNext g ns l (get_or xs i 0)) (append_assoc done (x ∷ []) (take i xs)) (next_in g ns (done ++ x ∷ []) xs i a.1 (omega arith))

pub next_at : (g : Graph) (ns C : List ℕ) (i : ℕ) → AreNext g ns [] C → i < length C → IsNext g ns (take i C) (get_or C i 0)
next_at g ns C i a h = next_in g ns [] C i a h

from_each : (g : Graph) (ns done xs : List ℕ) → ((k : ℕ) → k < length xs → IsNext g ns (done ++ take k xs) (get_or xs k 0)) → AreNext g ns done xs
from_each g ns done [] h = tt
from_each g ns done (x ∷ xs) h = (
  subst (λ (l : List ℕ). IsNext g ns l x) (append-nil done) (h 0 (omega arith)),
  from_each g ns (done ++ x ∷ []) xs (λ k l. subst (λ (m : List ℕ). IsNext g ns m (get_or xs k 0)) (sym (append_assoc done (x ∷ []) (take k xs))) (h (suc k) (omega arith))),
)

-- the front of a chain is a chain of another graph too, if each of it is the next there
pub front_chain : (g : Graph) (ns C : List ℕ) (p : ℕ) → p ≤ length C → ((k : ℕ) → k < p → IsNext g ns (take k C) (get_or C k 0)) → AreNext g ns [] (take p C)
front_chain g ns C p l h = from_each g ns [] (take p C) (λ k m.
    let e : length (take p C) ≡ p = length-take-le p C l in
    let k' : k < p = omega arith in
    let a : take k (take p C) ≡ take k C = take-take k p C (omega arith) in
    let b : get_or (take p C) k 0 ≡ get_or C k 0 = get_or-take p C k 0 k' in
    subst (λ (v : List ℕ). IsNext g ns v (get_or (take p C) k 0)) (sym a) (subst (λ (y : ℕ). IsNext g ns (take k C) y) (sym b) (h k k')))

once_in : (g : Graph) (ns done xs : List ℕ) → AreNext g ns done xs → ((x : ℕ) → tally x done ≤ 1) → (x : ℕ) → tally x (done ++ xs) ≤ 1
once_in g ns done [] a h x = rw (append-nil done) (h x)
once_in g ns done (y ∷ xs) a h x = rw (← append_assoc done (y ∷ []) xs) (once_in g ns (done ++ y ∷ []) xs a.1
    (λ z. by_test (y == z)
    (λ t. let s : y ≡ z = same_node y z t in let p : tally y (done ++ y ∷ []) ≡ tally y done + 1 = tally-push_same y done in let u : tally y done ≡ 0 = a.0.ready.unlisted in
    subst (λ (v : ℕ). tally v (done ++ y ∷ []) ≤ 1) s (omega arith))
    (λ t. rw (tally-push_other z y done (other_node y z t)) (h z))) x)

pub chain_once : (g : Graph) (ns C : List ℕ) → AreNext g ns [] C → (x : ℕ) → tally x C ≤ 1
chain_once g ns C a x = once_in g ns [] C a (λ z. omega arith) x

pub chain_inside : (g : Graph) (ns C : List ℕ) (x : ℕ) → AreNext g ns [] C → 0 < tally x C → 0 < tally x ns
chain_inside g ns C x a h = let i : (i : ℕ) × (i < length C) × (get_or C i 0 ≡ x) = at_tally x C h in
    subst (λ (v : ℕ). 0 < tally v ns) i.2 ((next_at g ns C i.0 a i.1).ready.node)

pub front_le : (C : List ℕ) (i j u : ℕ) → i ≤ j → 0 < tally u (take i C) → 0 < tally u (take j C)
front_le C i j u h k = let e : take i (take j C) ≡ take i C = take-take i j C h in
    let k' : 0 < tally u (take i (take j C)) = rw e k in let m : tally u (take i (take j C)) ≤ tally u (take j C) = tally-take_le u i (take j C) in omega arith

pub chain_closed : (g : Graph) (ns C : List ℕ) (x : ℕ) → AreNext g ns [] C → 0 < tally x C → missing C (g.feeders x) ≡ 0
chain_closed g ns C x a h = let i : (i : ℕ) × (i < length C) × (get_or C i 0 ≡ x) = at_tally x C h in
    let f : missing (take i.0 C) (g.feeders (get_or C i.0 0)) ≡ 0 = (next_at g ns C i.0 a i.1).ready.fed in
    let f' : missing (take i.0 C) (g.feeders x) ≡ 0 = subst (λ (v : ℕ). missing (take i.0 C) (g.feeders v) ≡ 0) i.2 f in
    let m : missing C (g.feeders x) ≤ missing (take i.0 C) (g.feeders x) = missing_le (take i.0 C) C (g.feeders x) (λ u _ l. let k : tally u (take i.0 C) ≤ tally u C = tally-take_le u i.0 C in omega arith) in
    omega arith

pub ready_later : (g : Graph) (ns C : List ℕ) (p i z : ℕ) → IsReady g ns (take p C) z → p ≤ i → tally z (take i C) ≡ 0 → IsReady g ns (take i C) z
ready_later g ns C p i z r h u = record {
  node = r.node;
  unlisted = u;
  fed = (let m : missing (take i C) (g.feeders z) ≤ missing (take p C) (g.feeders z) = missing_le (take p C) (take i C) (g.feeders z) (λ w _ l. front_le C p i w h l) in let f : missing (take p C) (g.feeders z) ≡ 0 = r.fed in omega arith);
}

pub waits_old : (g0 g : Graph) (ns C : List ℕ) (p z : ℕ) → g0.rank ≡ g.rank → AreNext g0 ns [] C → ((x : ℕ) → IsReady g0 ns C x → ⊥) → p ≤ length C → IsReady g0 ns (take p C) z → IsWaiting g C p z
waits_old g0 g ns C p z er a ended l r =
    let all : take (length C) C ≡ C = take_all (length C) C (omega arith) in
    record {
      there = by_test (tally z C == 0)
          (λ t. let e : tally z C ≡ 0 = same_node (tally z C) 0 t in
          absurd (ended z (subst (λ (v : List ℕ). IsReady g0 ns v z) all (ready_later g0 ns C p (length C) z r l (rw all e)))))
          (λ t. let n : tally z C ≡ 0 → ⊥ = other_node (tally z C) 0 t in omega arith);
      later = λ i b m u.
          let u' : tally z (take i C) ≡ 0 = zero_or (tally z (take i C)) (λ h. let k : 0 < tally z (take (i + 1) C) = front_le C i (i + 1) z (omega arith) h in absurd (omega arith)) in
          let n : g0.rank (get_or C i 0) ≤ g0.rank z = (next_at g0 ns C i a m).least z (ready_later g0 ns C p i z r b u') in
          subst (λ (rank : ℕ → ℕ). rank (get_or C i 0) ≤ rank z) er n;
    }

-- two graphs that differ only in what feeds v
pub record AreAlike (g0 g : Graph) (v : ℕ) : Type 0 where
  pub ranks : g0.rank ≡ g.rank
  pub others : (y : ℕ) → (y ≡ v → ⊥) → g0.feeders y ≡ g.feeders y

pub alike_back : (g0 g : Graph) (v : ℕ) → AreAlike g0 g v → AreAlike g g0 v
alike_back g0 g v a = record { ranks = sym a.ranks; others = λ y n. sym (a.others y n) }

pub ready_alike : (g0 g : Graph) (v : ℕ) (ns T T' : List ℕ) (y : ℕ) → AreAlike g0 g v → ((u : ℕ) → tally u T ≡ tally u T') → (y ≡ v → ⊥) → IsReady g0 ns T y → IsReady g ns T' y
ready_alike g0 g v ns T T' y a h n r = record { node = r.node; unlisted = rw (← h y) r.unlisted; fed = rw (← a.others y n) (sym (missing_same T T' (g0.feeders y) h) ∙ r.fed) }

-- where v is listed and the listed sets meet, the chains go on alike
pub next_alike : (g0 g : Graph) (v : ℕ) (ns T T' : List ℕ) (x : ℕ) → AreAlike g0 g v → ((u : ℕ) → tally u T ≡ tally u T') → 0 < tally v T → IsNext g0 ns T x → IsNext g ns T' x
next_alike g0 g v ns T T' x a h l n =
    let not_v : (y : ℕ) → tally y T ≡ 0 → y ≡ v → ⊥ = λ y z e. let z' : tally v T ≡ 0 = subst (λ (w : ℕ). tally w T ≡ 0) e z in absurd (omega arith) in
    record {
      ready = ready_alike g0 g v ns T T' x a h (not_v x n.ready.unlisted) n.ready;
      least = λ y r. let r0 : IsReady g0 ns T y = ready_alike g g0 v ns T' T y (alike_back g0 g v a) (λ u. sym (h u)) (not_v y (h y ∙ r.unlisted)) r in
          subst (λ (rank : ℕ → ℕ). rank x ≤ rank y) a.ranks (n.least y r0);
    }

pub AreNext_alike : (g0 g : Graph) (v : ℕ) (ns T T' xs : List ℕ) → AreAlike g0 g v → ((u : ℕ) → tally u T ≡ tally u T') → 0 < tally v T → AreNext g0 ns T xs → AreNext g ns T' xs
AreNext_alike g0 g v ns T T' [] a h l n = tt
AreNext_alike g0 g v ns T T' (x ∷ xs) a h l n = (
  next_alike g0 g v ns T T' x a h l n.0,
  AreNext_alike g0 g v ns (T ++ x ∷ []) (T' ++ x ∷ []) xs a
      (λ u. let p : tally u (T ++ x ∷ []) ≡ tally u T + tally u (x ∷ []) = tally-append u T (x ∷ []) in let q : tally u (T' ++ x ∷ []) ≡ tally u T' + tally u (x ∷ []) = tally-append u T' (x ∷ []) in let e : tally u T ≡ tally u T' = h u in omega arith)
      (let p : tally v T ≤ tally v (T ++ x ∷ []) = tally-push_le v x T in omega arith) n.1,
)

pub ended_alike : (g0 g : Graph) (v : ℕ) (ns T T' : List ℕ) → AreAlike g0 g v → ((u : ℕ) → tally u T ≡ tally u T') → 0 < tally v T → ((x : ℕ) → IsReady g0 ns T x → ⊥) → (x : ℕ) → IsReady g ns T' x → ⊥
ended_alike g0 g v ns T T' a h l e x r = e x (ready_alike g g0 v ns T' T x (alike_back g0 g v a) (λ u. sym (h u))
    (λ q. let z : tally v T' ≡ 0 = subst (λ (w : ℕ). tally w T' ≡ 0) q r.unlisted in let k : tally v T ≡ tally v T' = h v in absurd (omega arith)) r)

-- one chain and one stuck list
pub next_once : (g : Graph) (ns T : List ℕ) (x y : ℕ) → IsLawful g ns → IsNext g ns T x → IsNext g ns T y → x ≡ y
next_once g ns T x y law a b = let p : g.rank x ≤ g.rank y = a.least y b.ready in let q : g.rank y ≤ g.rank x = b.least x a.ready in
    law.apart x y a.ready.node b.ready.node (omega arith)
