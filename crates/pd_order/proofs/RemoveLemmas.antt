-- Spots that are taken out, and nodes that have none.
use Rattle.std.proofs.Common.{◌≡◌, ℕ, zero, suc, ◌+◌, ◌<◌, ◌≤◌, ◌==◌, false, List, [], ◌∷◌, ◌++◌, length, get_or, take, drop, refl, subst, arith}
use Rattle.pd_order.proofs.Basics.{by_test, zero_or, same_node, other_node, other_test}
use Rattle.pd_order.proofs.SpotLemmas.{above_at, found}
use Rattle.pd_order.proofs.MendLemmas.{listed_at}
use Rattle.pd_order.specs.Listing.{IsListed}
use Rattle.pd_order.specs.declared.spots.Spot.{Spot}
use Rattle.pd_order.specs.Graph.{tally}
use Rattle.pd_order.specs.Spots.{nodes_of, place_in, mark_in, put, nowhere, AreAbove, AreByNode}

above_none : (x : ℕ) (ss : List Spot) → AreAbove x ss → tally x (nodes_of ss) ≡ 0
above_none x [] a = refl
above_none x (s ∷ ss) a =
    let t : (s.node == x) ≡ false = other_test s.node x (λ e. let k : x < s.node = a.0 in omega arith) in
    let k : tally x (nodes_of ss) ≡ 0 = above_none x ss a.1 in rw t (omega arith)

pub absent_place : (ss : List Spot) (y : ℕ) → tally y (nodes_of ss) ≡ 0 → place_in ss y ≡ nowhere
absent_place [] y f = refl
absent_place (s ∷ ss) y f = by_test (s.node == y)
    (λ t. let k : 1 + tally y (nodes_of ss) ≡ 0 = rw t at f in absurd (omega arith))
    (λ t. rw t (absent_place ss y (omega arith)))

absent_mark : (ss : List Spot) (y : ℕ) → tally y (nodes_of ss) ≡ 0 → mark_in ss y ≡ 0
absent_mark [] y f = refl
absent_mark (s ∷ ss) y f = by_test (s.node == y)
    (λ t. let k : 1 + tally y (nodes_of ss) ≡ 0 = rw t at f in absurd (omega arith))
    (λ t. rw t (absent_mark ss y (omega arith)))

-- a node that isn't where the search ends has no place
pub no_place : (ss : List Spot) (node at : ℕ) → AreByNode ss → ((k : ℕ) → k < at → get_or (nodes_of ss) k 0 < node) →
    ((k : ℕ) → at ≤ k → k < length ss → node ≤ get_or (nodes_of ss) k 0) → ((at < length ss) × (get_or (nodes_of ss) at 0 ≡ node) → ⊥) → place_in ss node ≡ nowhere
no_place ss node at a before after n = absent_place ss node (zero_or (tally node (nodes_of ss)) (λ l. absurd (n (found ss node at a l before after))))

above_remove : (x : ℕ) (ss : List Spot) (i : ℕ) → AreAbove x ss → AreAbove x (take i ss ++ drop (suc i) ss)
above_remove x [] zero a = tt
above_remove x [] (suc i) a = tt
above_remove x (s ∷ ss) zero a = a.1
above_remove x (s ∷ ss) (suc i) a = (a.0, above_remove x ss i a.1)

pub by_node_remove : (ss : List Spot) (i : ℕ) → AreByNode ss → AreByNode (take i ss ++ drop (suc i) ss)
by_node_remove [] zero a = tt
by_node_remove [] (suc i) a = tt
by_node_remove (s ∷ ss) zero a = a.1
by_node_remove (s ∷ ss) (suc i) a = (above_remove s.node ss i a.0, by_node_remove ss i a.1)

pub nodes_remove : (ss : List Spot) (i x : ℕ) → i < length ss → tally x (nodes_of ss) ≡ tally x (get_or (nodes_of ss) i 0 ∷ nodes_of (take i ss ++ drop (suc i) ss))
nodes_remove [] i x l = absurd (omega arith)
nodes_remove (s ∷ ss) zero x l = refl
nodes_remove (s ∷ ss) (suc i) x l = let k : tally x (nodes_of ss) ≡ tally x (get_or (nodes_of ss) i 0 ∷ nodes_of (take i ss ++ drop (suc i) ss)) = nodes_remove ss i x (omega arith) in omega arith

pub place_remove : (ss : List Spot) (i x : ℕ) → i < length ss → AreByNode ss → place_in (take i ss ++ drop (suc i) ss) x ≡ put (place_in ss) (get_or (nodes_of ss) i 0) nowhere x
place_remove [] i x l a = absurd (omega arith)
place_remove (s ∷ ss) zero x l a = by_test (s.node == x)
    (λ t. rw t (subst (λ (v : ℕ). place_in ss v ≡ nowhere) (same_node s.node x t) (absent_place ss s.node (above_none s.node ss a.0))))
    (λ t. rw t refl)
place_remove (s ∷ ss) (suc i) x l a = by_test (s.node == x)
    (λ t. let n : (get_or (nodes_of ss) i 0 == x) ≡ false = other_test (get_or (nodes_of ss) i 0) x (λ e. let k : s.node < get_or (nodes_of ss) i 0 = above_at s.node ss i a.0 (omega arith) in let q : s.node ≡ x = same_node s.node x t in omega arith) in rw (t, n) refl)
    (λ t. rw t (place_remove ss i x (omega arith) a.1))

pub mark_remove : (ss : List Spot) (i x : ℕ) → i < length ss → AreByNode ss → mark_in (take i ss ++ drop (suc i) ss) x ≡ put (mark_in ss) (get_or (nodes_of ss) i 0) 0 x
mark_remove [] i x l a = absurd (omega arith)
mark_remove (s ∷ ss) zero x l a = by_test (s.node == x)
    (λ t. rw t (subst (λ (v : ℕ). mark_in ss v ≡ 0) (same_node s.node x t) (absent_mark ss s.node (above_none s.node ss a.0))))
    (λ t. rw t refl)
mark_remove (s ∷ ss) (suc i) x l a = by_test (s.node == x)
    (λ t. let n : (get_or (nodes_of ss) i 0 == x) ≡ false = other_test (get_or (nodes_of ss) i 0) x (λ e. let k : s.node < get_or (nodes_of ss) i 0 = above_at s.node ss i a.0 (omega arith) in let q : s.node ≡ x = same_node s.node x t in omega arith) in rw (t, n) refl)
    (λ t. rw t (mark_remove ss i x (omega arith) a.1))

-- a node that has a place stands there
pub placed_at : (chain stuck : List ℕ) (ss : List Spot) (x : ℕ) → IsListed chain stuck ss → (place_in ss x ≡ nowhere → ⊥) → (place_in ss x < length chain) × (get_or chain (place_in ss x) 0 ≡ x)
placed_at chain stuck ss x k n = k.seated.placed x (listed_at chain stuck ss x k
    (by_test (tally x (nodes_of ss) == 0)
    (λ t. absurd (n (absent_place ss x (same_node (tally x (nodes_of ss)) 0 t))))
    (λ t. let q : tally x (nodes_of ss) ≡ 0 → ⊥ = other_node (tally x (nodes_of ss)) 0 t in omega arith)) n)
