-- Places after one pass over the spots, where a place of the chain comes or goes.
use Rattle.std.proofs.Common.{◌≡◌, ℕ, suc, ◌+◌, ◌-◌, ◌<◌, ◌≤◌, ◌==◌, true, false, List, [], ◌∷◌, ◌++◌, length, map, get_or, take, drop, refl, sym, ◌∙◌, ap, subst, arith}
use Rattle.std.proofs.lemmas.Bool.Decides.{nat_tests}
use Rattle.std.specs.Prelude.{nat_lt}
use Rattle.std.proofs.lemmas.List.{take_all, drop_all, length-take-le, length-drop, length-append, length-map, get_or-drop, get_or_at, get_or-append_right}
use Rattle.pd_order.proofs.Basics.{by_test, same_node, other_node, other_test, tally_at, ltb', ltb-true', ltb-false'}
use Rattle.pd_order.proofs.WorkLemmas.{put_at, put_other}
use Rattle.pd_order.proofs.RunLemmas.{one_place}
use Rattle.pd_order.proofs.OrderLemmas.{chain_inside}
use Rattle.pd_order.proofs.MendLemmas.{listed_short}
use Rattle.pd_order.proofs.RemoveLemmas.{placed_at}
use Rattle.pd_order.proofs.AloneLemmas.{order_with}
use Rattle.pd_order.proofs.SeatLemmas.{inserted_listed, removed_listed}
use Rattle.pd_order.specs.declared.spots.Spot.{Spot}
use Rattle.pd_order.specs.Graph.{Graph, tally, IsAlone, IsLawful, IsOrder}
use Rattle.pd_order.specs.Spots.{nodes_of, place_in, mark_in, put, nowhere, reseated, place_lowered, place_raised, AreAbove, AreByNode}
use Rattle.pd_order.specs.Listing.{IsListed}

abbrev pub no_spot : Spot
no_spot = record { node = 0; place = 0; mark = 0 }

pub put_same_at : (f g : ℕ → ℕ) (y v x : ℕ) → f x ≡ g x → put f y v x ≡ put g y v x
put_same_at f g y v x e = by_test (y == x) (λ t. rw t refl) (λ t. rw t e)

pub nodes_reseated : (f : ℕ → ℕ) (ss : List Spot) → nodes_of (map (reseated f) ss) ≡ nodes_of ss
nodes_reseated f [] = refl
nodes_reseated f (s ∷ ss) = ap (λ (v : List ℕ). s.node ∷ v) (nodes_reseated f ss)

pub mark_reseated : (f : ℕ → ℕ) (ss : List Spot) (x : ℕ) → mark_in (map (reseated f) ss) x ≡ mark_in ss x
mark_reseated f [] x = refl
mark_reseated f (s ∷ ss) x = by_test (s.node == x) (λ t. rw t refl) (λ t. rw t (mark_reseated f ss x))

pub place_reseated : (f : ℕ → ℕ) (ss : List Spot) (x : ℕ) → f nowhere ≡ nowhere → place_in (map (reseated f) ss) x ≡ f (place_in ss x)
place_reseated f [] x n = sym n
place_reseated f (s ∷ ss) x n = by_test (s.node == x) (λ t. rw t refl) (λ t. rw t (place_reseated f ss x n))

above_reseated : (f : ℕ → ℕ) (y : ℕ) (ss : List Spot) → AreAbove y ss → AreAbove y (map (reseated f) ss)
above_reseated f y [] a = tt
above_reseated f y (s ∷ ss) a = (a.0, above_reseated f y ss a.1)

pub by_node_reseated : (f : ℕ → ℕ) (ss : List Spot) → AreByNode ss → AreByNode (map (reseated f) ss)
by_node_reseated f [] a = tt
by_node_reseated f (s ∷ ss) a = (above_reseated f s.node ss a.0, by_node_reseated f ss a.1)

pub lowered_nowhere : (p : ℕ) → place_lowered p nowhere ≡ nowhere
lowered_nowhere p = by_test (nat_lt p nowhere) (λ t. rw t refl) (λ t. rw t refl)

pub raised_nowhere : (p : ℕ) → place_raised p nowhere ≡ nowhere
raised_nowhere p = by_test (nat_lt nowhere p) (λ t. rw t refl) (λ t. rw t refl)

lowered_behind : (p v : ℕ) → p < v → v < nowhere → place_lowered p v ≡ v - 1
lowered_behind p v h n =
    let a : nat_lt p v ≡ true = grind (arith, nat_tests) in
    let b : (v == nowhere) ≡ false = other_test v nowhere (λ e. absurd (omega arith)) in rw (a, b) refl

lowered_before : (p v : ℕ) → v ≤ p → place_lowered p v ≡ v
lowered_before p v h = let a : nat_lt p v ≡ false = grind (arith, nat_tests) in rw a refl

raised_behind : (p v : ℕ) → p ≤ v → v < nowhere → place_raised p v ≡ v + 1
raised_behind p v h n =
    let a : nat_lt v p ≡ false = grind (arith, nat_tests) in
    let b : (v == nowhere) ≡ false = other_test v nowhere (λ e. absurd (omega arith)) in rw (a, b) refl

raised_before : (p v : ℕ) → v < p → place_raised p v ≡ v
raised_before p v h = let a : nat_lt v p ≡ true = grind (arith, nat_tests) in rw a refl

-- each node of the chain is at its place
at_place : (C stuck : List ℕ) (ss : List Spot) (k : ℕ) → IsListed C stuck ss → ((x : ℕ) → tally x C ≤ 1) → k < length C → place_in ss (get_or C k 0) ≡ k
at_place C stuck ss k l once h =
    let p : (place_in ss (get_or C k 0) < length C) × (get_or C (place_in ss (get_or C k 0)) 0 ≡ get_or C k 0) = l.seated.placed (get_or C k 0) (tally_at C k h) in
    one_place C (place_in ss (get_or C k 0)) k once p.0 h p.1

-- the list without its place p, and with y put in there
cut_at : (C : List ℕ) (p k : ℕ) → p < length C → p ≤ k → get_or (take p C ++ drop (p + 1) C) k 0 ≡ get_or C (k + 1) 0
cut_at C p k lp h =
    get_or-append_right (take p C) (drop (p + 1) C) p k 0 (length-take-le p C (omega arith)) h
    ∙ get_or-drop (p + 1) C (k - p) 0 ∙ ap (λ (i : ℕ). get_or C i 0) (omega arith)

put_in_at : (C : List ℕ) (y p k : ℕ) → p ≤ length C → p < k → get_or (take p C ++ y ∷ drop p C) k 0 ≡ get_or C (k - 1) 0
put_in_at C y p k lp h =
    let a : get_or (take p C ++ y ∷ drop p C) k 0 ≡ get_or (y ∷ drop p C) (k - p) 0 = get_or-append_right (take p C) (y ∷ drop p C) p k 0 (length-take-le p C lp) (omega arith) in
    let b : k - p ≡ suc (k - p - 1) = omega arith in
    let c : get_or (y ∷ drop p C) (k - p) 0 ≡ get_or (drop p C) (k - p - 1) 0 = ap (λ (i : ℕ). get_or (y ∷ drop p C) i 0) b in
    a ∙ c ∙ get_or-drop p C (k - p - 1) 0 ∙ ap (λ (i : ℕ). get_or C i 0) (omega arith)

length_cut : (C : List ℕ) (p : ℕ) → p < length C → length (take p C ++ drop (p + 1) C) + 1 ≡ length C
length_cut C p lp =
    let a : length (take p C ++ drop (p + 1) C) ≡ length (take p C) + length (drop (p + 1) C) = length-append (take p C) (drop (p + 1) C) in
    let b : length (take p C) ≡ p = length-take-le p C (omega arith) in
    let c : length (drop (p + 1) C) ≡ length C - (p + 1) = length-drop (p + 1) C in omega arith

length_put_in : (C : List ℕ) (y p : ℕ) → p ≤ length C → length (take p C ++ y ∷ drop p C) ≡ length C + 1
length_put_in C y p lp =
    let a : length (take p C ++ y ∷ drop p C) ≡ length (take p C) + length (y ∷ drop p C) = length-append (take p C) (y ∷ drop p C) in
    let b : length (take p C) ≡ p = length-take-le p C lp in
    let c : length (drop p C) ≡ length C - p = length-drop p C in omega arith

-- what stands at place k, from p on, is behind p
behind_p : (D : List ℕ) (p k x : ℕ) → p ≤ k → k < length D → get_or D k 0 ≡ x → tally x (drop p D) ≡ 0 → ⊥
behind_p D p k x h l e z =
    let d : get_or (drop p D) (k - p) 0 ≡ x = get_or-drop p D (k - p) 0 ∙ ap (λ (i : ℕ). get_or D i 0) (omega arith) ∙ e in
    let m : length (drop p D) ≡ length D - p = length-drop p D in
    let t : 0 < tally (get_or (drop p D) (k - p) 0) (drop p D) = tally_at (drop p D) (k - p) (omega arith) in
    let t' : 0 < tally x (drop p D) = subst (λ (v : ℕ). 0 < tally v (drop p D)) d t in omega arith

-- the spots after the node at place p of the chain was taken out, and one pass
pub closed_up : (C stuck : List ℕ) (ss us : List Spot) (y p : ℕ) → IsListed C stuck ss → ((x : ℕ) → tally x C ≤ 1) → p < length C → get_or C p 0 ≡ y →
    AreByNode us → ((x : ℕ) → tally x (nodes_of ss) ≡ tally x (y ∷ nodes_of us)) → ((x : ℕ) → mark_in us x ≡ 0) → length us < nowhere →
    ((x : ℕ) → place_in us x ≡ put (place_in ss) y nowhere x) → IsListed (take p C ++ drop (p + 1) C) stuck (map (reseated (place_lowered p)) us)
closed_up C stuck ss us y p k once lp at by more marks few places =
    let f : ℕ → ℕ = place_lowered p in
    let ws : List Spot = map (reseated f) us in
    let D : List ℕ = take p C ++ drop (p + 1) C in
    let ld : length D + 1 ≡ length C = length_cut C p lp in
    let short : length C < nowhere = listed_short C stuck ss k in
    let is_at : (x : ℕ) → place_in ws x ≡ f (put (place_in ss) y nowhere x) = λ x. place_reseated f us x (lowered_nowhere p) ∙ ap f (places x) in
    removed_listed C stuck ss ws y p k once lp at (by_node_reseated f us by)
    (λ x. more x ∙ ap (λ (v : List ℕ). tally x (y ∷ v)) (sym (nodes_reseated f us)))
    (λ x. mark_reseated f us x ∙ marks x)
    (rw (length-map us (reseated f)) few)
    (λ i a b.
    let e : get_or D i 0 ≡ get_or C (i + 1) 0 = cut_at C p i lp a in
    let n : y ≡ get_or C (i + 1) 0 → ⊥ = λ q. let j : p ≡ i + 1 = one_place C p (i + 1) once lp (omega arith) (at ∙ q) in absurd (omega arith) in
    let v : put (place_in ss) y nowhere (get_or C (i + 1) 0) ≡ i + 1 = put_other (place_in ss) y nowhere (get_or C (i + 1) 0) n ∙ at_place C stuck ss (i + 1) k once (omega arith) in
    let g : place_in ws (get_or C (i + 1) 0) ≡ i = is_at (get_or C (i + 1) 0) ∙ ap f v ∙ lowered_behind p (i + 1) (omega arith) (omega arith) ∙ (omega arith) in
    subst (λ (w : ℕ). place_in ws w ≡ i) (sym e) g)
    (λ x z. is_at x ∙ by_test (y == x)
    (λ t. let q : put (place_in ss) y nowhere x ≡ nowhere = subst (λ (w : ℕ). put (place_in ss) y nowhere w ≡ nowhere) (same_node y x t) (put_at (place_in ss) y nowhere) in
    ap f q ∙ lowered_nowhere p ∙ sym q)
    (λ t. let n : y ≡ x → ⊥ = other_node y x t in
    let q : put (place_in ss) y nowhere x ≡ place_in ss x = put_other (place_in ss) y nowhere x n in
    ap f q ∙ by_test (place_in ss x == nowhere)
    (λ u. let w : place_in ss x ≡ nowhere = same_node (place_in ss x) nowhere u in ap f w ∙ lowered_nowhere p ∙ sym w ∙ sym q)
    (λ u. let s : (place_in ss x < length C) × (get_or C (place_in ss x) 0 ≡ x) = placed_at C stuck ss x k (other_node (place_in ss x) nowhere u) in
    by_test (ltb' p (place_in ss x))
    (λ b. let l : p < place_in ss x = ltb-true' p (place_in ss x) b in
    let i : ℕ = place_in ss x - 1 in
    let sl : place_in ss x < length C = s.0 in
    let e : get_or D i 0 ≡ x = cut_at C p i lp (omega arith) ∙ ap (λ (j : ℕ). get_or C j 0) (omega arith) ∙ s.1 in
    absurd (behind_p D p i x (omega arith) (omega arith) e z))
    (λ b. let l : place_in ss x ≤ p = ltb-false' p (place_in ss x) b in lowered_before p (place_in ss x) l ∙ sym q))))

-- the spots after one pass, and after a node was put in at place p of the chain
pub made_way : (C stuck : List ℕ) (ss us : List Spot) (y p : ℕ) → IsListed C stuck ss → ((x : ℕ) → tally x C ≤ 1) → p ≤ length C → tally y C ≡ 0 →
    AreByNode us → ((x : ℕ) → tally x (nodes_of us) ≡ tally x (y ∷ nodes_of ss)) → ((x : ℕ) → mark_in us x ≡ 0) → length us < nowhere →
    ((x : ℕ) → place_in us x ≡ put (λ (v : ℕ). place_raised p (place_in ss v)) y p x) → IsListed (take p C ++ y ∷ drop p C) stuck us
made_way C stuck ss us y p k once lp fresh by more marks few places =
    let f : ℕ → ℕ = place_raised p in
    let h : ℕ → ℕ = λ v. f (place_in ss v) in
    let D : List ℕ = take p C ++ y ∷ drop p C in
    let ld : length D ≡ length C + 1 = length_put_in C y p lp in
    let short : length C < nowhere = listed_short C stuck ss k in
    let lt : length (take p C) ≡ p = length-take-le p C lp in
    let front : get_or D p 0 ≡ y = get_or_at (take p C) y (drop p C) 0 p lt in
    let apart : (x : ℕ) → tally x (drop p D) ≡ 0 → y ≡ x → ⊥ = λ x z e. behind_p D p p x (omega arith) (omega arith) (front ∙ e) z in
    inserted_listed C stuck ss us y p k once lp by more marks few
    (λ i a b. by_test (i == p)
    (λ t. let e : i ≡ p = same_node i p t in
    subst (λ (j : ℕ). place_in us (get_or D j 0) ≡ j) (sym e) (subst (λ (w : ℕ). place_in us w ≡ p) (sym front) (places y ∙ put_at h y p)))
    (λ t. let ne : i ≡ p → ⊥ = other_node i p t in
    let e : get_or D i 0 ≡ get_or C (i - 1) 0 = put_in_at C y p i lp (omega arith) in
    let c : 0 < tally (get_or C (i - 1) 0) C = tally_at C (i - 1) (omega arith) in
    let n : y ≡ get_or C (i - 1) 0 → ⊥ = λ q. let c' : 0 < tally y C = subst (λ (w : ℕ). 0 < tally w C) (sym q) c in absurd (omega arith) in
    let v : place_in ss (get_or C (i - 1) 0) ≡ i - 1 = at_place C stuck ss (i - 1) k once (omega arith) in
    let g : place_in us (get_or C (i - 1) 0) ≡ i = places (get_or C (i - 1) 0) ∙ put_other h y p (get_or C (i - 1) 0) n ∙ ap f v ∙ raised_behind p (i - 1) (omega arith) (omega arith) ∙ (omega arith) in
    subst (λ (w : ℕ). place_in us w ≡ i) (sym e) g))
    (λ x z. let n : y ≡ x → ⊥ = apart x z in
    let q : put (place_in ss) y p x ≡ place_in ss x = put_other (place_in ss) y p x n in
    places x ∙ put_other h y p x n ∙ by_test (place_in ss x == nowhere)
    (λ u. let w : place_in ss x ≡ nowhere = same_node (place_in ss x) nowhere u in ap f w ∙ raised_nowhere p ∙ sym w ∙ sym q)
    (λ u. let s : (place_in ss x < length C) × (get_or C (place_in ss x) 0 ≡ x) = placed_at C stuck ss x k (other_node (place_in ss x) nowhere u) in
    by_test (ltb' (place_in ss x) p)
    (λ b. let l : place_in ss x < p = ltb-true' (place_in ss x) p b in raised_before p (place_in ss x) l ∙ sym q)
    (λ b. let l : p ≤ place_in ss x = ltb-false' (place_in ss x) p b in
    let i : ℕ = place_in ss x + 1 in
    let sl : place_in ss x < length C = s.0 in
    let e : get_or D i 0 ≡ x = put_in_at C y p i lp (omega arith) ∙ ap (λ (j : ℕ). get_or C j 0) (omega arith) ∙ s.1 in
    absurd (behind_p D p i x (omega arith) (omega arith) e z))))

at_the_end : (C : List ℕ) (y : ℕ) → take (length C) C ++ y ∷ drop (length C) C ≡ C ++ y ∷ []
at_the_end C y =
    let n : length C ≤ length C = omega arith in
    ap (λ (l : List ℕ). l ++ y ∷ drop (length C) C) (take_all (length C) C n) ∙ ap (λ (l : List ℕ). C ++ y ∷ l) (drop_all (length C) C n)

-- the spots after a node was put in at the end of the chain
pub appended_listed : (C stuck : List ℕ) (ss us : List Spot) (y : ℕ) → IsListed C stuck ss → ((x : ℕ) → tally x C ≤ 1) →
    AreByNode us → ((x : ℕ) → tally x (nodes_of us) ≡ tally x (y ∷ nodes_of ss)) → ((x : ℕ) → mark_in us x ≡ 0) → length us < nowhere →
    ((x : ℕ) → place_in us x ≡ put (place_in ss) y (length C) x) → IsListed (C ++ y ∷ []) stuck us
appended_listed C stuck ss us y k once by more marks few places =
    let p : ℕ = length C in
    let lp : p ≤ length C = omega arith in
    let D : List ℕ = take p C ++ y ∷ drop p C in
    let ld : length D ≡ length C + 1 = length_put_in C y p lp in
    let front : get_or D p 0 ≡ y = get_or_at (take p C) y (drop p C) 0 p (length-take-le p C lp) in
    subst (λ (l : List ℕ). IsListed l stuck us) (at_the_end C y)
    (inserted_listed C stuck ss us y p k once lp by more marks few
    (λ i a b. let e : p ≡ i = omega arith in subst (λ (j : ℕ). place_in us (get_or D j 0) ≡ j) e (subst (λ (w : ℕ). place_in us w ≡ p) (sym front) (places y ∙ put_at (place_in ss) y p)))
    (λ x z. places x))

-- the order with a node behind all others by rank
pub order_appended : (g : Graph) (y : ℕ) (ns C stuck : List ℕ) → IsLawful g (y ∷ ns) → IsAlone g y → tally y ns ≡ 0 → IsOrder g ns C stuck →
    ((x : ℕ) → 0 < tally x ns → g.rank x < g.rank y) → IsOrder g (y ∷ ns) (C ++ y ∷ []) stuck
order_appended g y ns C stuck law al f o last =
    subst (λ (l : List ℕ). IsOrder g (y ∷ ns) l stuck) (at_the_end C y)
    (order_with g y ns C stuck (length C) law al f o (omega arith)
    (λ k h. let r : g.rank (get_or C k 0) < g.rank y = last (get_or C k 0) (chain_inside g ns C (get_or C k 0) o.listed (tally_at C k h)) in omega arith)
    (λ h. absurd (omega arith)))
