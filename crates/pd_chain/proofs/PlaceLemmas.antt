-- The places of nodes in their list.
use Rattle.std.proofs.Common.{◌≡◌, ℕ, ◌+◌, ◌<◌, ◌==◌, cond, List, [], ◌∷◌, ◌++◌, length, get_or, refl, sym, ◌∙◌, ap, arith}
use Rattle.pd_order.specs.Graph.{tally, take_out}
use Rattle.pd_order.proofs.Basics.{by_test, same_node, same_test, in_rest, tally-take_out, length-take_out}
use Rattle.pd_chain.specs.declared.entries.Entry.{Entry}
use Rattle.pd_chain.specs.Entries.{values_at, numbered}
use Rattle.pd_chain.specs.Wires.{place_of}

pub numbered-push : (i v : ℕ) (xs : List ℕ) (y : ℕ) → v ≡ i + length xs → numbered i (xs ++ y ∷ []) ≡ numbered i xs ++ record { key = y; value = v } ∷ []
numbered-push i v [] y e = let q : v ≡ i = omega arith in rw q refl
numbered-push i v (x ∷ xs) y e =
    let f : List Entry → List Entry = λ l. record { key = x; value = i } ∷ l in
    ap f (numbered-push (i + 1) v xs y (omega arith))

pub length-numbered : (i : ℕ) (ns : List ℕ) → length (numbered i ns) ≡ length ns
length-numbered i [] = refl
length-numbered i (n ∷ ns) = let k : length (numbered (i + 1) ns) ≡ length ns = length-numbered (i + 1) ns in omega arith

numbered_none : (i : ℕ) (ns : List ℕ) (x : ℕ) → tally x ns ≡ 0 → values_at (numbered i ns) x ≡ []
numbered_none i [] x h = refl
numbered_none i (n ∷ ns) x h = by_test (n == x)
    (λ t. absurd (let h' : 1 + tally x ns ≡ 0 = rw t at h in omega arith))
    (λ t. let h' : 0 + tally x ns ≡ 0 = rw t at h in rw t (numbered_none (i + 1) ns x (omega arith)))

pub numbered_one : (i v : ℕ) (ns : List ℕ) (x : ℕ) → tally x ns ≡ 1 → v ≡ i + place_of ns x → values_at (numbered i ns) x ≡ v ∷ []
numbered_one i v [] x h e = absurd (omega arith)
numbered_one i v (n ∷ ns) x h e = by_test (n == x)
    (λ t. let h' : 1 + tally x ns ≡ 1 = rw t at h in
    let e' : v ≡ i + 0 = rw t at e in
    let q : v ≡ i = omega arith in
    rw (t, q) (ap (λ (l : List ℕ). i ∷ l) (numbered_none (i + 1) ns x (omega arith))))
    (λ t. let h' : 0 + tally x ns ≡ 1 = rw t at h in
    let e' : v ≡ i + (place_of ns x + 1) = rw t at e in
    rw t (numbered_one (i + 1) v ns x (omega arith) (omega arith)))

pub alone_first : (xs : List ℕ) (v : ℕ) → ((u : ℕ) → tally u xs ≡ tally u (v ∷ [])) → get_or xs 0 0 ≡ v
alone_first [] v h = absurd (let k : 0 ≡ 1 + 0 = rw (same_test v) at (h v) in omega arith)
alone_first (y ∷ ys) v h = by_test (v == y)
    (λ t. sym (same_node v y t))
    (λ t. absurd (let k : cond (y == y) 1 0 + tally y ys ≡ 0 + 0 = rw t at (h y) in
    let m : 1 + tally y ys ≡ 0 + 0 = rw (same_test y) at k in omega arith))

pub place_once : (ns : List ℕ) (x y : ℕ) → 0 < tally x ns → 0 < tally y ns → place_of ns x ≡ place_of ns y → x ≡ y
place_once [] x y a b e = absurd (omega arith)
place_once (n ∷ ns) x y a b e = by_test (n == x)
    (λ s. by_test (n == y)
    (λ t. sym (same_node n x s) ∙ same_node n y t)
    (λ t. absurd (let e' : 0 ≡ place_of ns y + 1 = rw (s, t) at e in omega arith)))
    (λ s. by_test (n == y)
    (λ t. absurd (let e' : place_of ns x + 1 ≡ 0 = rw (s, t) at e in omega arith))
    (λ t. let e' : place_of ns x + 1 ≡ place_of ns y + 1 = rw (s, t) at e in
    place_once ns x y (in_rest x n ns s a) (in_rest y n ns t b) (omega arith)))

-- lists with the same counts are as long
pub length_alike : (xs ys : List ℕ) → ((u : ℕ) → tally u xs ≡ tally u ys) → length xs ≡ length ys
length_alike [] [] h = refl
length_alike [] (y ∷ ys) h = absurd (let k : 0 ≡ 1 + tally y ys = rw (same_test y) at (h y) in omega arith)
length_alike (x ∷ xs) ys h =
    let k : 1 + tally x xs ≡ tally x ys = rw (same_test x) at (h x) in
    let there : 0 < tally x ys = omega arith in
    let r : length xs ≡ length (take_out x ys) = length_alike xs (take_out x ys) (λ u.
    let a : tally u (take_out x ys) + cond (x == u) 1 0 ≡ tally u ys = tally-take_out u x ys there in
    let b : cond (x == u) 1 0 + tally u xs ≡ tally u ys = h u in omega arith) in
    let l : length (take_out x ys) + 1 ≡ length ys = length-take_out x ys there in omega arith
