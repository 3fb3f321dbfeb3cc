-- Graphs over lists of wires.
use Rattle.std.proofs.Common.{◌≡◌, ℕ, zero, suc, ◌+◌, ◌-◌, ◌<◌, ◌≤◌, ◌==◌, false, true, cond, List, [], ◌∷◌, ◌++◌, length, get_or, take, drop, refl, sym, ◌∙◌, ap, subst, arith}
use Rattle.std.specs.Prelude.{◌↔◌}
use Rattle.std.proofs.lemmas.List.{drop_more, drop_all}
use Rattle.pd_order.proofs.Basics.{by_test, zero_or, same_node, same_test, other_node, other_test, in_rest, tally-append, tally-take_out, length_le}
use Rattle.pd_order.proofs.SpotLemmas.{length-nodes}
use Rattle.pd_order.proofs.SameLemmas.{same_order}
use Rattle.pd_order.specs.declared.spots.Spot.{Spot}
use Rattle.pd_order.specs.Graph.{tally, take_out, IsLawful, IsOrder, cut_wire, add_wire}
use Rattle.pd_order.specs.Spots.{nodes_of}
use Rattle.pd_order.specs.Wired.{ends_at, wired, numbers_below}

-- one wire is passed in a count or a search
pub ends_hit : (near far : List ℕ) (i x : ℕ) → i < length near → length near ≡ length far → get_or near i 0 ≡ x → ends_at (drop i near) (drop i far) x ≡ get_or far i 0 ∷ ends_at (drop (i + 1) near) (drop (i + 1) far) x
ends_hit near far i x l e h =
    let t : (get_or near i 0 == x) ≡ true = rw h (same_test x) in
    let a : drop i near ≡ get_or near i 0 ∷ drop (i + 1) near = drop_more near i 0 l in
    let b : drop i far ≡ get_or far i 0 ∷ drop (i + 1) far = drop_more far i 0 (omega arith) in rw (a, b, t) refl

pub ends_miss : (near far : List ℕ) (i x : ℕ) → i < length near → length near ≡ length far → (get_or near i 0 ≡ x → ⊥) → ends_at (drop i near) (drop i far) x ≡ ends_at (drop (i + 1) near) (drop (i + 1) far) x
ends_miss near far i x l e h =
    let t : (get_or near i 0 == x) ≡ false = other_test (get_or near i 0) x h in
    let a : drop i near ≡ get_or near i 0 ∷ drop (i + 1) near = drop_more near i 0 l in
    let b : drop i far ≡ get_or far i 0 ∷ drop (i + 1) far = drop_more far i 0 (omega arith) in rw (a, b, t) refl

pub ends_few : (near far : List ℕ) (x : ℕ) → length (ends_at near far x) ≤ length near
ends_few [] far x = omega arith
ends_few (n ∷ near) [] x = omega arith
ends_few (n ∷ near) (f ∷ far) x = let k : length (ends_at near far x) ≤ length near = ends_few near far x in
    by_test (n == x) (λ t. rw t (omega arith)) (λ t. rw t (omega arith))

ends_joined : (near far : List ℕ) (x u : ℕ) → tally u (ends_at near far x) ≡ tally x (ends_at far near u)
ends_joined [] [] x u = refl
ends_joined [] (f ∷ far) x u = refl
ends_joined (n ∷ near) [] x u = refl
ends_joined (n ∷ near) (f ∷ far) x u = let k : tally u (ends_at near far x) ≡ tally x (ends_at far near u) = ends_joined near far x u in
    by_test (n == x)
    (λ s. by_test (f == u) (λ t. rw (s, t, s) (omega arith)) (λ t. rw (s, t) (omega arith)))
    (λ s. by_test (f == u) (λ t. rw (s, t, s) (omega arith)) (λ t. rw (s, t) (omega arith)))

far_there : (near far : List ℕ) (x u : ℕ) → 0 < tally u (ends_at near far x) → 0 < tally u far
far_there [] far x u h = absurd (omega arith)
far_there (n ∷ near) [] x u h = absurd (omega arith)
far_there (n ∷ near) (f ∷ far) x u h = by_test (f == u)
    (λ t. rw t (omega arith))
    (λ t. by_test (n == x)
    (λ s. let h' : 0 < tally u (f ∷ ends_at near far x) = rw s at h in let k : 0 < tally u far = far_there near far x u (in_rest u f (ends_at near far x) t h') in omega arith)
    (λ s. let h' : 0 < tally u (ends_at near far x) = rw s at h in let k : 0 < tally u far = far_there near far x u h' in omega arith))

-- a node at which no wire has its near end
pub near_none : (near far : List ℕ) (x : ℕ) → length near ≡ length far → length (ends_at near far x) ≡ 0 → tally x near ≡ 0
near_none [] far x e h = refl
near_none (n ∷ near) [] x e h = absurd (omega arith)
near_none (n ∷ near) (f ∷ far) x e h = by_test (n == x)
    (λ t. absurd (let k : length (f ∷ ends_at near far x) ≡ 0 = rw t at h in omega arith))
    (λ t. let k : length (ends_at near far x) ≡ 0 = rw t at h in let m : tally x near ≡ 0 = near_none near far x (omega arith) k in rw t (omega arith))

below_only : (n x : ℕ) → 0 < tally x (numbers_below n) → x < n
below_only zero x h = absurd (omega arith)
below_only (suc n) x h =
    let a : tally x (numbers_below n ++ n ∷ []) ≡ tally x (numbers_below n) + tally x (n ∷ []) = tally-append x (numbers_below n) (n ∷ []) in
    by_test (n == x)
    (λ t. let e : n ≡ x = same_node n x t in omega arith)
    (λ t. let a' : tally x (numbers_below n ++ n ∷ []) ≡ tally x (numbers_below n) + 0 = rw t at a in let k : x < n = below_only n x (omega arith) in omega arith)

below_there : (n x : ℕ) → x < n → 0 < tally x (numbers_below n)
below_there zero x h = absurd (omega arith)
below_there (suc n) x h =
    let a : tally x (numbers_below n ++ n ∷ []) ≡ tally x (numbers_below n) + tally x (n ∷ []) = tally-append x (numbers_below n) (n ∷ []) in
    by_test (n == x)
    (λ t. let a' : tally x (numbers_below n ++ n ∷ []) ≡ tally x (numbers_below n) + 1 = rw t at a in omega arith)
    (λ t. let e : n ≡ x → ⊥ = other_node n x t in let k : 0 < tally x (numbers_below n) = below_there n x (omega arith) in omega arith)

below_once : (n x : ℕ) → tally x (numbers_below n) ≤ 1
below_once zero x = omega arith
below_once (suc n) x =
    let a : tally x (numbers_below n ++ n ∷ []) ≡ tally x (numbers_below n) + tally x (n ∷ []) = tally-append x (numbers_below n) (n ∷ []) in
    let k : tally x (numbers_below n) ≤ 1 = below_once n x in
    by_test (n == x)
    (λ t. let a' : tally x (numbers_below n ++ n ∷ []) ≡ tally x (numbers_below n) + 1 = rw t at a in
    let z : tally x (numbers_below n) ≡ 0 = zero_or (tally x (numbers_below n)) (λ h. let m : x < n = below_only n x h in let e : n ≡ x = same_node n x t in absurd (omega arith)) in omega arith)
    (λ t. let a' : tally x (numbers_below n ++ n ∷ []) ≡ tally x (numbers_below n) + 0 = rw t at a in omega arith)

pub length-below : (n : ℕ) → length (numbers_below n) ≡ n
length-below zero = refl
length-below (suc n) = let k : length (numbers_below n) ≡ n = length-below n in simp length-append' (omega arith)
  where
    length-append' : (xs ys : List ℕ) → length (xs ++ ys) ≡ length xs + length ys
    length-append' [] ys = omega arith
    length-append' (x ∷ xs) ys = let e : length (xs ++ ys) ≡ length xs + length ys = length-append' xs ys in omega arith

pub nodes_below : (n : ℕ) (ns : List ℕ) (x : ℕ) → ((y : ℕ) → tally y ns ≡ tally y (numbers_below n)) → x < n → 0 < tally x ns
nodes_below n ns x e h = let k : 0 < tally x (numbers_below n) = below_there n x h in let q : tally x ns ≡ tally x (numbers_below n) = e x in omega arith

pub fresh_above : (n : ℕ) (ns : List ℕ) → ((y : ℕ) → tally y ns ≡ tally y (numbers_below n)) → tally n ns ≡ 0
fresh_above n ns e = e n ∙ zero_or (tally n (numbers_below n)) (λ h. let k : n < n = below_only n n h in absurd (omega arith))

pub count_below : (n : ℕ) (ss : List Spot) → ((x : ℕ) → tally x (nodes_of ss) ≡ tally x (numbers_below n)) → length ss ≡ n
count_below n ss e =
    let lb : length (numbers_below n) ≡ n = length-below n in
    let ls : length (nodes_of ss) ≡ length ss = length-nodes ss in
    let a : length (nodes_of ss) ≤ length (numbers_below n) = length_le (nodes_of ss) (numbers_below n) (λ z. let q : tally z (nodes_of ss) ≡ tally z (numbers_below n) = e z in let o : tally z (numbers_below n) ≤ 1 = below_once n z in omega arith) (λ z h. let q : tally z (nodes_of ss) ≡ tally z (numbers_below n) = e z in omega arith) in
    let b : length (numbers_below n) ≤ length (nodes_of ss) = length_le (numbers_below n) (nodes_of ss) (below_once n) (λ z h. let q : tally z (nodes_of ss) ≡ tally z (numbers_below n) = e z in omega arith) in omega arith

pub wired_lawful : (ss ts ns : List ℕ) (n : ℕ) → length ss ≡ length ts → length ss < 4294967295 → ((u : ℕ) → 0 < tally u ss → u < n) → ((u : ℕ) → 0 < tally u ts → u < n) → ((x : ℕ) → tally x ns ≡ tally x (numbers_below n)) → IsLawful (wired ss ts) ns
wired_lawful ss ts ns n e few bs bt en = record {
  once = λ x. let o : tally x (numbers_below n) ≤ 1 = below_once n x in let q : tally x ns ≡ tally x (numbers_below n) = en x in omega arith;
  apart = λ x y a b q. q;
  joined = λ x u. ends_joined ts ss x u;
  sources = λ x u h. nodes_below n ns u en (bs u (far_there ts ss x u h));
  sinks = λ x u h. nodes_below n ns x en (bt x (far_there ss ts u x (let q : tally u (ends_at ts ss x) ≡ tally x (ends_at ss ts u) = ends_joined ts ss x u in omega arith)));
  few = λ x. let k : length (ends_at ts ss x) ≤ length ts = ends_few ts ss x in omega arith;
}

-- a wire more at the end
pub ends_push : (near far : List ℕ) (n f x u : ℕ) → length near ≡ length far → tally u (ends_at (near ++ n ∷ []) (far ++ f ∷ []) x) ≡ tally u (ends_at near far x) + tally u (cond (n == x) (f ∷ []) [])
ends_push [] [] n f x u e = by_test (n == x) (λ t. rw t (omega arith)) (λ t. rw t refl)
ends_push [] (g ∷ far) n f x u e = absurd (omega arith)
ends_push (m ∷ near) [] n f x u e = absurd (omega arith)
ends_push (m ∷ near) (g ∷ far) n f x u e =
    let k : tally u (ends_at (near ++ n ∷ []) (far ++ f ∷ []) x) ≡ tally u (ends_at near far x) + tally u (cond (n == x) (f ∷ []) []) = ends_push near far n f x u (omega arith) in
    by_test (m == x) (λ t. rw t (omega arith)) (λ t. rw t k)

-- a wire less
pub ends_cut : (near far : List ℕ) (i x u : ℕ) → i < length near → length near ≡ length far →
    tally u (ends_at near far x) ≡ tally u (ends_at (take i near ++ drop (suc i) near) (take i far ++ drop (suc i) far) x) + tally u (cond (get_or near i 0 == x) (get_or far i 0 ∷ []) [])
ends_cut [] far i x u l e = absurd (omega arith)
ends_cut (m ∷ near) [] i x u l e = absurd (omega arith)
ends_cut (m ∷ near) (g ∷ far) zero x u l e = by_test (m == x) (λ t. rw t (omega arith)) (λ t. rw t (omega arith))
ends_cut (m ∷ near) (g ∷ far) (suc i) x u l e =
    let k : tally u (ends_at near far x) ≡ tally u (ends_at (take i near ++ drop (suc i) near) (take i far ++ drop (suc i) far) x) + tally u (cond (get_or near i 0 == x) (get_or far i 0 ∷ []) []) = ends_cut near far i x u (omega arith) (omega arith) in
    by_test (m == x) (λ t. rw t (omega arith)) (λ t. rw t k)

by_rank_of : (x y : ℕ) → (x < y) ↔ (x < y)
by_rank_of x y = (λ h. h, λ h. h)

-- the order before a wire was added is that of the graph now without it
pub order_pushed : (ss ts ns chain stuck : List ℕ) (s v : ℕ) → length ss ≡ length ts → IsOrder (wired ss ts) ns chain stuck → IsOrder (cut_wire (wired (ss ++ s ∷ []) (ts ++ v ∷ [])) s v) ns chain stuck
order_pushed ss ts ns chain stuck s v e o = same_order (wired ss ts) (cut_wire (wired (ss ++ s ∷ []) (ts ++ v ∷ [])) s v) ns ns chain stuck
    (record {
      ranks = λ x y _ _. by_rank_of x y;
      feeders = λ x u _.
          let k : tally u (ends_at (ts ++ v ∷ []) (ss ++ s ∷ []) x) ≡ tally u (ends_at ts ss x) + tally u (cond (v == x) (s ∷ []) []) = ends_push ts ss v s x u (sym e) in
          by_test (x == v)
          (λ t. let q : x ≡ v = same_node x v t in
          let t' : (v == x) ≡ true = rw q (same_test v) in
          let k' : tally u (ends_at (ts ++ v ∷ []) (ss ++ s ∷ []) x) ≡ tally u (ends_at ts ss x) + tally u (s ∷ []) = rw t' at k in
          let ks : tally s (ends_at (ts ++ v ∷ []) (ss ++ s ∷ []) x) ≡ tally s (ends_at ts ss x) + tally s (s ∷ []) = (let z : tally s (ends_at (ts ++ v ∷ []) (ss ++ s ∷ []) x) ≡ tally s (ends_at ts ss x) + tally s (cond (v == x) (s ∷ []) []) = ends_push ts ss v s x s (sym e) in rw t' at z) in
          let one : tally s (s ∷ []) ≡ 1 = rw (same_test s) refl in
          let w : tally u (take_out s (ends_at (ts ++ v ∷ []) (ss ++ s ∷ []) x)) + cond (s == u) 1 0 ≡ tally u (ends_at (ts ++ v ∷ []) (ss ++ s ∷ []) x) = tally-take_out u s (ends_at (ts ++ v ∷ []) (ss ++ s ∷ []) x) (omega arith) in
          rw t (omega arith))
          (λ t. let t' : (v == x) ≡ false = other_test v x (λ q. other_node x v t (sym q)) in
          let k' : tally u (ends_at (ts ++ v ∷ []) (ss ++ s ∷ []) x) ≡ tally u (ends_at ts ss x) + 0 = rw t' at k in rw t (omega arith));
    }) (λ _. refl) o

-- the order before a wire was cut is that of the graph now with it
pub order_cut : (ss ts ns chain stuck : List ℕ) (i : ℕ) → i < length ss → length ss ≡ length ts → IsOrder (wired ss ts) ns chain stuck →
    IsOrder (add_wire (wired (take i ss ++ drop (suc i) ss) (take i ts ++ drop (suc i) ts)) (get_or ss i 0) (get_or ts i 0)) ns chain stuck
order_cut ss ts ns chain stuck i l e o = same_order (wired ss ts) (add_wire (wired (take i ss ++ drop (suc i) ss) (take i ts ++ drop (suc i) ts)) (get_or ss i 0) (get_or ts i 0)) ns ns chain stuck
    (record {
      ranks = λ x y _ _. by_rank_of x y;
      feeders = λ x u _.
          let k : tally u (ends_at ts ss x) ≡ tally u (ends_at (take i ts ++ drop (suc i) ts) (take i ss ++ drop (suc i) ss) x) + tally u (cond (get_or ts i 0 == x) (get_or ss i 0 ∷ []) []) = ends_cut ts ss i x u (omega arith) (sym e) in
          by_test (x == get_or ts i 0)
          (λ t. let q : x ≡ get_or ts i 0 = same_node x (get_or ts i 0) t in
          let t' : (get_or ts i 0 == x) ≡ true = rw q (same_test (get_or ts i 0)) in
          let k' : tally u (ends_at ts ss x) ≡ tally u (ends_at (take i ts ++ drop (suc i) ts) (take i ss ++ drop (suc i) ss) x) + tally u (get_or ss i 0 ∷ []) = rw t' at k in rw t (omega arith))
          (λ t. let t' : (get_or ts i 0 == x) ≡ false = other_test (get_or ts i 0) x (λ q. other_node x (get_or ts i 0) t (sym q)) in
          let k' : tally u (ends_at ts ss x) ≡ tally u (ends_at (take i ts ++ drop (suc i) ts) (take i ss ++ drop (suc i) ss) x) + 0 = rw t' at k in rw t (omega arith));
    }) (λ _. refl) o

-- what the tests' helpers need
pub count_step : (near far : List ℕ) (i x : ℕ) → i < length near → length near ≡ length far →
    length (ends_at (drop i near) (drop i far) x) ≡ cond (get_or near i 0 == x) 1 0 + length (ends_at (drop (i + 1) near) (drop (i + 1) far) x)
count_step near far i x l e = by_test (get_or near i 0 == x)
    (λ t. let k : length (ends_at (drop i near) (drop i far) x) ≡ length (get_or far i 0 ∷ ends_at (drop (i + 1) near) (drop (i + 1) far) x) = ap length (ends_hit near far i x l e (same_node (get_or near i 0) x t)) in rw t (omega arith))
    (λ t. let k : length (ends_at (drop i near) (drop i far) x) ≡ length (ends_at (drop (i + 1) near) (drop (i + 1) far) x) = ap length (ends_miss near far i x l e (other_node (get_or near i 0) x t)) in rw t (omega arith))

pub count_end : (near far : List ℕ) (i x : ℕ) → length near ≤ i → length (ends_at (drop i near) (drop i far) x) ≡ 0
count_end near far i x l = rw (drop_all i near l) refl

pub push_below : (xs : List ℕ) (s n : ℕ) → ((u : ℕ) → 0 < tally u xs → u < n) → s < n → (u : ℕ) → 0 < tally u (xs ++ s ∷ []) → u < n
push_below xs s n b l u h =
    let a : tally u (xs ++ s ∷ []) ≡ tally u xs + tally u (s ∷ []) = tally-append u xs (s ∷ []) in
    by_test (s == u)
    (λ t. let e : s ≡ u = same_node s u t in omega arith)
    (λ t. let a' : tally u (xs ++ s ∷ []) ≡ tally u xs + 0 = rw t at a in b u (omega arith))

pub end_pushed : (near far : List ℕ) (n f : ℕ) → length near ≡ length far → 0 < tally f (ends_at (near ++ n ∷ []) (far ++ f ∷ []) n)
end_pushed near far n f e =
    let k : tally f (ends_at (near ++ n ∷ []) (far ++ f ∷ []) n) ≡ tally f (ends_at near far n) + tally f (cond (n == n) (f ∷ []) []) = ends_push near far n f n f e in
    let k' : tally f (ends_at (near ++ n ∷ []) (far ++ f ∷ []) n) ≡ tally f (ends_at near far n) + tally f (f ∷ []) = rw (same_test n) at k in
    let one : tally f (f ∷ []) ≡ 1 = rw (same_test f) refl in omega arith

pub none_at : (near far : List ℕ) (n : ℕ) → ((u : ℕ) → 0 < tally u near → u < n) → ends_at near far n ≡ []
none_at [] far n b = refl
none_at (m ∷ near) [] n b = refl
none_at (m ∷ near) (f ∷ far) n b =
    let l : m < n = b m (rw (same_test m) (omega arith)) in
    let t : (m == n) ≡ false = other_test m n (λ e. omega arith) in
    rw t (none_at near far n (λ u h. b u (omega arith)))

pub no_ends : (xs : List ℕ) → length xs ≡ 0 → xs ≡ []
no_ends [] e = refl
no_ends (x ∷ xs) e = absurd (omega arith)

pub more_nodes : (n : ℕ) (ns : List ℕ) → ((x : ℕ) → tally x ns ≡ tally x (numbers_below n)) → (x : ℕ) → tally x (n ∷ ns) ≡ tally x (numbers_below (n + 1))
more_nodes n ns e x =
    let s : n + 1 ≡ suc n = omega arith in
    let a : tally x (numbers_below n ++ n ∷ []) ≡ tally x (numbers_below n) + tally x (n ∷ []) = tally-append x (numbers_below n) (n ∷ []) in
    let k : tally x ns ≡ tally x (numbers_below n) = e x in rw s (omega arith)

pub fewer_nodes : (n : ℕ) (ns ms : List ℕ) → ((x : ℕ) → tally x ns ≡ tally x (numbers_below (n + 1))) → ((x : ℕ) → tally x ns ≡ tally x (n ∷ ms)) → (x : ℕ) → tally x ms ≡ tally x (numbers_below n)
fewer_nodes n ns ms e h x =
    let k : tally x (n ∷ numbers_below n) ≡ tally x (numbers_below (n + 1)) = more_nodes n (numbers_below n) (λ _. refl) x in
    let p : tally x ns ≡ tally x (numbers_below (n + 1)) = e x in
    let q : tally x ns ≡ tally x (n ∷ ms) = h x in omega arith

pub less_below : (xs : List ℕ) (n : ℕ) → ((u : ℕ) → 0 < tally u xs → u < n + 1) → tally n xs ≡ 0 → (u : ℕ) → 0 < tally u xs → u < n
less_below xs n b z u h = by_test (u == n)
    (λ t. absurd (let k : tally u xs ≡ 0 = subst (λ (v : ℕ). tally v xs ≡ 0) (sym (same_node u n t)) z in omega arith))
    (λ t. let e : u ≡ n → ⊥ = other_node u n t in let l : u < n + 1 = b u h in omega arith)

pub one_number_more : (n : ℕ) (xs : List ℕ) → xs ≡ numbers_below n → xs ++ n ∷ [] ≡ numbers_below (n + 1)
one_number_more n xs e = let s : n + 1 ≡ suc n = omega arith in rw (s, e) refl

get_or_later : (f : ℕ) (es : List ℕ) (left : ℕ) → (left ≡ 0 → ⊥) → get_or (f ∷ es) left 0 ≡ get_or es (left - 1) 0
get_or_later f es zero n = absurd (n refl)
get_or_later f es (suc left) n = let e : suc left - 1 ≡ left = omega arith in rw e refl

-- the search goes on behind an end
pub end_skipped : (near far : List ℕ) (i x left left' t : ℕ) → i < length near → length near ≡ length far → get_or near i 0 ≡ x → (left ≡ 0 → ⊥) → left' ≡ left - 1 →
    get_or (ends_at (drop i near) (drop i far) x) left 0 ≡ t → left < length (ends_at (drop i near) (drop i far) x) →
    (get_or (ends_at (drop (i + 1) near) (drop (i + 1) far) x) left' 0 ≡ t) × (left' < length (ends_at (drop (i + 1) near) (drop (i + 1) far) x))
end_skipped near far i x left left' t l e h n d s m =
    let es : List ℕ = ends_at (drop (i + 1) near) (drop (i + 1) far) x in
    let k : ends_at (drop i near) (drop i far) x ≡ get_or far i 0 ∷ es = ends_hit near far i x l e h in
    let a : get_or (get_or far i 0 ∷ es) left 0 ≡ t = subst (λ (v : List ℕ). get_or v left 0 ≡ t) k s in
    let b : left < length (get_or far i 0 ∷ es) = subst (λ (v : List ℕ). left < length v) k m in
    (subst (λ (v : ℕ). get_or es v 0 ≡ t) (sym d) (sym (get_or_later (get_or far i 0) es left n) ∙ a), omega arith)

pub end_missed : (near far : List ℕ) (i x left left' t : ℕ) → i < length near → length near ≡ length far → (get_or near i 0 ≡ x → ⊥) → left' ≡ left →
    get_or (ends_at (drop i near) (drop i far) x) left 0 ≡ t → left < length (ends_at (drop i near) (drop i far) x) →
    (get_or (ends_at (drop (i + 1) near) (drop (i + 1) far) x) left' 0 ≡ t) × (left' < length (ends_at (drop (i + 1) near) (drop (i + 1) far) x))
end_missed near far i x left left' t l e h d s m =
    let es : List ℕ = ends_at (drop (i + 1) near) (drop (i + 1) far) x in
    let k : ends_at (drop i near) (drop i far) x ≡ es = ends_miss near far i x l e h in
    subst (λ (v : ℕ). (get_or es v 0 ≡ t) × (v < length es)) (sym d) (subst (λ (v : List ℕ). (get_or v left 0 ≡ t) × (left < length v)) k (s, m))

pub order_less : (ss ts ns chain stuck : List ℕ) (i : ℕ) → i < length ss → length ss ≡ length ts → IsOrder (wired ss ts) ns chain stuck →
    IsOrder (add_wire (wired (take i ss ++ drop (i + 1) ss) (take i ts ++ drop (i + 1) ts)) (get_or ss i 0) (get_or ts i 0)) ns chain stuck
order_less ss ts ns chain stuck i l e o = let s : i + 1 ≡ suc i = omega arith in rw s (order_cut ss ts ns chain stuck i l e o)
