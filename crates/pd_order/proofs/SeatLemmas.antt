-- Places after a node has joined a chain or left it.
use Rattle.std.proofs.Common.{◌≡◌, ℕ, ◌+◌, ◌-◌, ◌<◌, ◌≤◌, ◌==◌, List, ◌∷◌, ◌++◌, length, get_or, take, drop, sym, ◌∙◌, ap, subst, arith}
use Rattle.std.proofs.lemmas.List.{take-append-drop, take_at, drop_at, length-take-le, length-drop, get_or-take, get_or-drop}
use Rattle.pd_order.proofs.Basics.{by_test, same_node, same_test, other_node, tally-append, tally_at, at_tally}
use Rattle.pd_order.proofs.WorkLemmas.{put_at, put_other}
use Rattle.pd_order.proofs.SpotLemmas.{nodes_once}
use Rattle.pd_order.proofs.RunLemmas.{front_at, one_place, not_in_front}
use Rattle.pd_order.proofs.AloneLemmas.{Adds, adds_le, adds_other, adds_there, adds_insert, adds_at}
use Rattle.pd_order.specs.declared.spots.Spot.{Spot}
use Rattle.pd_order.specs.Graph.{tally}
use Rattle.pd_order.specs.Spots.{nodes_of, place_in, mark_in, put, nowhere, AreByNode}
use Rattle.pd_order.specs.Work.{ArePlaced}
use Rattle.pd_order.specs.Listing.{IsListed}

in_two : (x : ℕ) (xs : List ℕ) (p : ℕ) → tally x xs ≡ tally x (take p xs) + tally x (drop p xs)
in_two x xs p = ap (tally x) (sym (take-append-drop p xs)) ∙ tally-append x (take p xs) (drop p xs)

-- where two chains share their front, and what is behind it in the second one is at its place
placed_again : (C D : List ℕ) (p : ℕ) (place place' : ℕ → ℕ) → p ≤ length C → take p D ≡ take p C → ((x : ℕ) → tally x C ≤ 1) → ArePlaced C place →
    ((k : ℕ) → p ≤ k → k < length D → place' (get_or D k 0) ≡ k) → ((x : ℕ) → tally x (drop p D) ≡ 0 → 0 < tally x (take p C) → place' x ≡ place x) → ArePlaced D place'
placed_again C D p place place' lp front once pl behind before x l = by_test (tally x (drop p D) == 0)
    (λ t. let z : tally x (drop p D) ≡ 0 = same_node (tally x (drop p D)) 0 t in
    let s : tally x D ≡ tally x (take p D) + tally x (drop p D) = in_two x D p in
    let h : 0 < tally x (take p D) = omega arith in
    let h' : 0 < tally x (take p C) = subst (λ (v : List ℕ). 0 < tally x v) front h in
    let i : (i : ℕ) × (i < p) × (i < length D) × (get_or D i 0 ≡ x) = front_at x D p h in
    let ic : i.0 < length C = (let b : i.0 < p = i.1 in omega arith) in
    let at : get_or C i.0 0 ≡ x = sym (get_or-take p C i.0 0 i.1) ∙ ap (λ (v : List ℕ). get_or v i.0 0) (sym front) ∙ get_or-take p D i.0 0 i.1 ∙ i.3 in
    let c : 0 < tally x C = (let q : tally x C ≡ tally x (take p C) + tally x (drop p C) = in_two x C p in omega arith) in
    let e : place x ≡ i.0 = one_place C (place x) i.0 once ((pl x c).0) ic ((pl x c).1 ∙ sym at) in
    subst (λ (v : ℕ). (v < length D) × (get_or D v 0 ≡ x)) (sym (before x z h' ∙ e)) (i.2, i.3))
    (λ t. let z : tally x (drop p D) ≡ 0 → ⊥ = other_node (tally x (drop p D)) 0 t in
    let i : (i : ℕ) × (i < length (drop p D)) × (get_or (drop p D) i 0 ≡ x) = at_tally x (drop p D) (omega arith) in
    let m : i.0 < length D - p = subst (λ (v : ℕ). i.0 < v) (length-drop p D) i.1 in
    let at : get_or D (p + i.0) 0 ≡ x = sym (get_or-drop p D i.0 0) ∙ i.2 in
    let e : place' x ≡ p + i.0 = subst (λ (v : ℕ). place' v ≡ p + i.0) at (behind (p + i.0) (omega arith) (omega arith)) in
    subst (λ (v : ℕ). (v < length D) × (get_or D v 0 ≡ x)) (sym e) (omega arith, at))

apart_by : (y x : ℕ) (xs : List ℕ) → 0 < tally y xs → tally x xs ≡ 0 → y ≡ x → ⊥
apart_by y x xs h z e = let q : tally y xs ≡ 0 = subst (λ (v : ℕ). tally v xs ≡ 0) (sym e) z in omega arith

pub inserted_listed : (C stuck : List ℕ) (ss ss' : List Spot) (y p : ℕ) → IsListed C stuck ss → ((x : ℕ) → tally x C ≤ 1) → p ≤ length C →
    AreByNode ss' → ((x : ℕ) → tally x (nodes_of ss') ≡ tally x (y ∷ nodes_of ss)) → ((x : ℕ) → mark_in ss' x ≡ 0) → length ss' < nowhere →
    ((k : ℕ) → p ≤ k → k < length (take p C ++ y ∷ drop p C) → place_in ss' (get_or (take p C ++ y ∷ drop p C) k 0) ≡ k) →
    ((x : ℕ) → tally x (drop p (take p C ++ y ∷ drop p C)) ≡ 0 → place_in ss' x ≡ put (place_in ss) y p x) → IsListed (take p C ++ y ∷ drop p C) stuck ss'
inserted_listed C stuck ss ss' y p k once lp by more marks few behind others =
    let D : List ℕ = take p C ++ y ∷ drop p C in
    let lt : length (take p C) ≡ p = length-take-le p C lp in
    let front : take p D ≡ take p C = take_at (take p C) (y ∷ drop p C) p lt in
    let rest : drop p D ≡ y ∷ drop p C = drop_at (take p C) (y ∷ drop p C) p lt in
    let there : 0 < tally y (drop p D) = subst (λ (v : List ℕ). 0 < tally y v) (sym rest) (head y (drop p C)) in
    let nodes : Adds y (nodes_of ss) (nodes_of ss') = record { more = more } in
    let chain : Adds y C D = adds_insert y C p in
    let in_chain : 0 < tally y D = (let q : tally y D ≡ tally y C + 1 = adds_there y C D chain in omega arith) in
    record {
      by_node = by;
      seated = record {
        placed = placed_again C D p (place_in ss) (place_in ss') lp front once k.seated.placed behind (λ x z l. others x z ∙ put_other (place_in ss) y p x (apart_by y x (drop p D) there z));
        away = λ x n z. let a : y ≡ x → ⊥ = apart_by y x D in_chain z in
            let n' : 0 < tally x (nodes_of ss) = (let q : tally x (nodes_of ss') ≡ tally x (nodes_of ss) = adds_other y (nodes_of ss) (nodes_of ss') x nodes a in omega arith) in
            let z' : tally x C ≡ 0 = (let q : tally x C ≤ tally x D = adds_le y C D x chain in omega arith) in
            let w : tally x (drop p D) ≡ 0 = (let q : tally x D ≡ tally x (take p D) + tally x (drop p D) = in_two x D p in omega arith) in
            others x w ∙ put_other (place_in ss) y p x a ∙ k.seated.away x n' z';
      };
      listed = λ x. let a : tally x D ≡ tally x (y ∷ C) = chain.more x in let b : tally x (nodes_of ss') ≡ tally x (y ∷ nodes_of ss) = more x in let d : tally x stuck + tally x C ≡ tally x (nodes_of ss) = k.listed x in omega arith;
      unmarked = marks;
      few = few;
    }
  where
    head : (y : ℕ) (xs : List ℕ) → 0 < tally y (y ∷ xs)
    head y xs = rw (same_test y) (omega arith)

pub removed_listed : (C stuck : List ℕ) (ss ss' : List Spot) (y p : ℕ) → IsListed C stuck ss → ((x : ℕ) → tally x C ≤ 1) → p < length C → get_or C p 0 ≡ y →
    AreByNode ss' → ((x : ℕ) → tally x (nodes_of ss) ≡ tally x (y ∷ nodes_of ss')) → ((x : ℕ) → mark_in ss' x ≡ 0) → length ss' < nowhere →
    ((k : ℕ) → p ≤ k → k < length (take p C ++ drop (p + 1) C) → place_in ss' (get_or (take p C ++ drop (p + 1) C) k 0) ≡ k) →
    ((x : ℕ) → tally x (drop p (take p C ++ drop (p + 1) C)) ≡ 0 → place_in ss' x ≡ put (place_in ss) y nowhere x) → IsListed (take p C ++ drop (p + 1) C) stuck ss'
removed_listed C stuck ss ss' y p k once lp at by more marks few behind others =
    let D : List ℕ = take p C ++ drop (p + 1) C in
    let lt : length (take p C) ≡ p = length-take-le p C (omega arith) in
    let front : take p D ≡ take p C = take_at (take p C) (drop (p + 1) C) p lt in
    let nodes : Adds y (nodes_of ss') (nodes_of ss) = record { more = more } in
    let chain : Adds y D C = adds_at y C p lp at in
    let gone : tally y (nodes_of ss') ≡ 0 = (let q : tally y (nodes_of ss) ≡ tally y (nodes_of ss') + 1 = adds_there y (nodes_of ss') (nodes_of ss) nodes in let o : tally y (nodes_of ss) ≤ 1 = nodes_once ss y k.by_node in omega arith) in
    let not_front : tally y (take p C) ≡ 0 = subst (λ (v : ℕ). tally v (take p C) ≡ 0) at (not_in_front C p p once (omega arith) lp) in
    record {
      by_node = by;
      seated = record {
        placed = placed_again C D p (place_in ss) (place_in ss') (omega arith) front once k.seated.placed behind (λ x z l. others x z ∙ put_other (place_in ss) y nowhere x (λ e. apart_by x y (take p C) l not_front (sym e)));
        away = λ x n z. let a : y ≡ x → ⊥ = λ e. apart_by x y (nodes_of ss') n gone (sym e) in
            let n' : 0 < tally x (nodes_of ss) = (let q : tally x (nodes_of ss') ≤ tally x (nodes_of ss) = adds_le y (nodes_of ss') (nodes_of ss) x nodes in omega arith) in
            let z' : tally x C ≡ 0 = adds_other y D C x chain a ∙ z in
            let w : tally x (drop p D) ≡ 0 = (let q : tally x D ≡ tally x (take p D) + tally x (drop p D) = in_two x D p in omega arith) in
            others x w ∙ put_other (place_in ss) y nowhere x a ∙ k.seated.away x n' z';
      };
      listed = λ x. let a : tally x C ≡ tally x (y ∷ D) = chain.more x in let b : tally x (nodes_of ss) ≡ tally x (y ∷ nodes_of ss') = more x in let d : tally x stuck + tally x C ≡ tally x (nodes_of ss) = k.listed x in omega arith;
      unmarked = marks;
      few = few;
    }

-- one more of the chain is told its place
pub placed_more : (xs : List ℕ) (from i : ℕ) (f f' : ℕ → ℕ) → ((x : ℕ) → tally x xs ≤ 1) → i < length xs → ((x : ℕ) → f' x ≡ put f (get_or xs i 0) i x) →
    ((k : ℕ) → from ≤ k → k < i → f (get_or xs k 0) ≡ k) → (k : ℕ) → from ≤ k → k < i + 1 → f' (get_or xs k 0) ≡ k
placed_more xs from i f f' once l h p k a b = by_test (k == i)
    (λ t. subst (λ (v : ℕ). f' (get_or xs v 0) ≡ v) (sym (same_node k i t)) (h (get_or xs i 0) ∙ put_at f (get_or xs i 0) i))
    (λ t. let n : k ≡ i → ⊥ = other_node k i t in
    let apart : get_or xs i 0 ≡ get_or xs k 0 → ⊥ = λ e. n (sym (one_place xs i k once l (omega arith) e)) in
    h (get_or xs k 0) ∙ put_other f (get_or xs i 0) i (get_or xs k 0) apart ∙ p k a (omega arith))

pub behind_there : (xs : List ℕ) (from i : ℕ) → from ≤ i → i < length xs → 0 < tally (get_or xs i 0) (drop from xs)
behind_there xs from i a l =
    let d : get_or (drop from xs) (i - from) 0 ≡ get_or xs i 0 = get_or-drop from xs (i - from) 0 ∙ ap (λ (k : ℕ). get_or xs k 0) (omega arith) in
    let k : 0 < tally (get_or (drop from xs) (i - from) 0) (drop from xs) = tally_at (drop from xs) (i - from) (let e : length (drop from xs) ≡ length xs - from = length-drop from xs in omega arith) in
    subst (λ (v : ℕ). 0 < tally v (drop from xs)) d k

pub others_more : (xs : List ℕ) (from i x : ℕ) (f f' : ℕ → ℕ) → from ≤ i → i < length xs → ((y : ℕ) → f' y ≡ put f (get_or xs i 0) i y) → tally x (drop from xs) ≡ 0 → f' x ≡ f x
others_more xs from i x f f' a l h z = h x ∙ put_other f (get_or xs i 0) i x (apart_by (get_or xs i 0) x (drop from xs) (behind_there xs from i a l) z)

pub unmarked_without : (f f' : ℕ → ℕ) (y : ℕ) → ((x : ℕ) → f x ≡ 0) → ((x : ℕ) → f' x ≡ put f y 0 x) → (x : ℕ) → f' x ≡ 0
unmarked_without f f' y z h x = by_test (y == x)
    (λ t. subst (λ (v : ℕ). f' v ≡ 0) (same_node y x t) (h y ∙ put_at f y 0))
    (λ t. h x ∙ put_other f y 0 x (other_node y x t) ∙ z x)
