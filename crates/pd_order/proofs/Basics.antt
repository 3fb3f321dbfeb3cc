-- Counts in lists.
use Rattle.std.proofs.Common.{◌≡◌, ℕ, zero, suc, ◌+◌, ◌<◌, ◌≤◌, ◌==◌, Bool, true, false, cond, List, [], ◌∷◌, ◌++◌, length, get_or, take, refl, sym, ◌∙◌, ap, subst, arith}
use lib.Dec.{ltb}
use Rattle.std.proofs.lemmas.Bool.Decides.{nat_tests}
use Rattle.std.proofs.lemmas.List.{take_more}
use Rattle.pd_order.specs.Graph.{tally, missing, total, take_out}

pub by_test : {P : Type 0} (b : Bool) → (b ≡ true → P) → (b ≡ false → P) → P
by_test true f g = f refl
by_test false f g = g refl

pub same_node : (x y : ℕ) → (x == y) ≡ true → x ≡ y
same_node x y h = grind (arith, nat_tests)

pub same_test : (x : ℕ) → (x == x) ≡ true
same_test x = grind (arith, nat_tests)

pub other_node : (x y : ℕ) → (x == y) ≡ false → x ≡ y → ⊥
other_node x y h e = grind (arith, nat_tests)

pub other_test : (x y : ℕ) → (x ≡ y → ⊥) → (x == y) ≡ false
other_test x y h = by_test (x == y) (λ e. absurd (h (same_node x y e))) (λ e. e)

pub not_lt : (i n : ℕ) → (i < n → ⊥) → n ≤ i
not_lt i n h = grind arith

pub ltb' : ℕ → ℕ → Bool
ltb' i n = ltb i n

pub ltb-true' : (i n : ℕ) → ltb' i n ≡ true → i < n
unfolding ltb'
ltb-true' i n h = grind (arith, nat_tests)

pub ltb-false' : (i n : ℕ) → ltb' i n ≡ false → n ≤ i
unfolding ltb'
ltb-false' i n h = grind (arith, nat_tests)

pub zero_or : (n : ℕ) → (0 < n → n ≡ 0) → n ≡ 0
zero_or zero h = refl
zero_or (suc n) h = h (omega arith)

pub or_else : (i n : ℕ) → (i < n → n ≤ i) → n ≤ i
or_else i n h = grind arith

pub tally-append : (x : ℕ) (xs ys : List ℕ) → tally x (xs ++ ys) ≡ tally x xs + tally x ys
tally-append x [] ys = omega arith
tally-append x (y ∷ xs) ys = let e : tally x (xs ++ ys) ≡ tally x xs + tally x ys = tally-append x xs ys in omega arith

pub tally-push_same : (x : ℕ) (xs : List ℕ) → tally x (xs ++ x ∷ []) ≡ tally x xs + 1
tally-push_same x xs = rw (tally-append x xs (x ∷ []), same_test x) (omega arith)

pub tally-push_other : (x y : ℕ) (xs : List ℕ) → (y ≡ x → ⊥) → tally x (xs ++ y ∷ []) ≡ tally x xs
tally-push_other x y xs h = rw (tally-append x xs (y ∷ []), other_test y x h) (omega arith)

pub tally-push_le : (x y : ℕ) (xs : List ℕ) → tally x xs ≤ tally x (xs ++ y ∷ [])
tally-push_le x y xs = rw (tally-append x xs (y ∷ [])) (omega arith)

pub tally_at : (xs : List ℕ) (i : ℕ) → i < length xs → 0 < tally (get_or xs i 0) xs
tally_at [] i h = absurd (omega arith)
tally_at (x ∷ xs) zero h = rw (same_test x) (omega arith)
tally_at (x ∷ xs) (suc i) h = let k : 0 < tally (get_or xs i 0) xs = tally_at xs i (omega arith) in omega arith

pub in_rest : (x y : ℕ) (xs : List ℕ) → (y == x) ≡ false → 0 < tally x (y ∷ xs) → 0 < tally x xs
in_rest x y xs e h = let k : 0 < cond false 1 0 + tally x xs = rw e at h in omega arith

pub at_tally : (x : ℕ) (xs : List ℕ) → 0 < tally x xs → (i : ℕ) × (i < length xs) × (get_or xs i 0 ≡ x)
at_tally x [] h = absurd (omega arith)
at_tally x (y ∷ xs) h = by_test (y == x)
    (λ e. (0, omega arith, same_node y x e))
    (λ e. let r : (i : ℕ) × (i < length xs) × (get_or xs i 0 ≡ x) = at_tally x xs (in_rest x y xs e h) in (suc r.0, (let k : r.0 < length xs = r.1 in omega arith), r.2))

pub missing-push : (y : ℕ) (T us : List ℕ) → tally y T ≡ 0 → missing (T ++ y ∷ []) us + tally y us ≡ missing T us
missing-push y T [] h = refl
missing-push y T (u ∷ us) h =
    let k : missing (T ++ y ∷ []) us + tally y us ≡ missing T us = missing-push y T us h in
    by_test (u == y)
    (λ e. let s : u ≡ y = same_node u y e in
    let hu : tally u T ≡ 0 = subst (λ (z : ℕ). tally z T ≡ 0) (sym s) h in
    let p : tally u (T ++ y ∷ []) ≡ 1 = rw s (tally-push_same y T ∙ rw h refl) in
    rw (e, hu, p) (omega arith))
    (λ e. let p : tally u (T ++ y ∷ []) ≡ tally u T = tally-push_other u y T (λ s. other_node u y e (sym s)) in
    rw (e, p) (omega arith))

pub missing_le : (a b us : List ℕ) → ((u : ℕ) → 0 < tally u us → 0 < tally u a → 0 < tally u b) → missing b us ≤ missing a us
missing_le a b [] h = omega arith
missing_le a b (u ∷ us) h =
    let k : missing b us ≤ missing a us = missing_le a b us (λ w l m. h w (omega arith) m) in
    by_test (tally u a == 0)
    (λ e. rw e (by_test (tally u b == 0) (λ f. rw f (omega arith)) (λ f. rw f (omega arith))))
    (λ e. let n : 0 < tally u a = grind (arith, nat_tests) in
    let m : 0 < tally u b = h u (rw (same_test u) (omega arith)) n in
    let f : (tally u b == 0) ≡ false = grind (arith, nat_tests) in rw (e, f) (omega arith))

pub all_listed : (u : ℕ) (T us : List ℕ) → missing T us ≡ 0 → 0 < tally u us → 0 < tally u T
all_listed u T [] h l = absurd (omega arith)
all_listed u T (w ∷ us) h l = by_test (w == u)
    (λ e. let s : w ≡ u = same_node w u e in
    by_test (tally w T == 0) (λ f. let m : 1 + missing T us ≡ 0 = rw f at h in absurd (omega arith))
    (λ f. let m : 0 < tally w T = grind (arith, nat_tests) in subst (λ (z : ℕ). 0 < tally z T) s m))
    (λ e. all_listed u T us (omega arith) (in_rest u w us e l))

pub none_missing : (T us : List ℕ) → ((u : ℕ) → 0 < tally u us → 0 < tally u T) → missing T us ≡ 0
none_missing T [] h = refl
none_missing T (u ∷ us) h =
    let k : missing T us ≡ 0 = none_missing T us (λ w l. h w (omega arith)) in
    let m : 0 < tally u T = h u (rw (same_test u) (omega arith)) in
    let f : (tally u T == 0) ≡ false = grind (arith, nat_tests) in rw f (omega arith)

pub missing-append : (T us ws : List ℕ) → missing T (us ++ ws) ≡ missing T us + missing T ws
missing-append T [] ws = omega arith
missing-append T (u ∷ us) ws = let e : missing T (us ++ ws) ≡ missing T us + missing T ws = missing-append T us ws in omega arith

pub missing-le_length : (T us : List ℕ) → missing T us ≤ length us
missing-le_length T [] = omega arith
missing-le_length T (u ∷ us) = let e : missing T us ≤ length us = missing-le_length T us in
    by_test (tally u T == 0) (λ f. rw f (omega arith)) (λ f. rw f (omega arith))

pub tally-take_out : (z x : ℕ) (ys : List ℕ) → 0 < tally x ys → tally z (take_out x ys) + cond (x == z) 1 0 ≡ tally z ys
tally-take_out z x [] h = absurd (omega arith)
tally-take_out z x (y ∷ ys) h = by_test (y == x)
    (λ e. let s : y ≡ x = same_node y x e in rw e (rw s (omega arith)))
    (λ e. let k : tally z (take_out x ys) + cond (x == z) 1 0 ≡ tally z ys = tally-take_out z x ys (in_rest x y ys e h) in rw e (omega arith))

pub total-take_out : (f : ℕ → ℕ) (x : ℕ) (ys : List ℕ) → 0 < tally x ys → total f (take_out x ys) + f x ≡ total f ys
total-take_out f x [] h = absurd (omega arith)
total-take_out f x (y ∷ ys) h = by_test (y == x)
    (λ e. let s : y ≡ x = same_node y x e in rw e (rw s (omega arith)))
    (λ e. let k : total f (take_out x ys) + f x ≡ total f ys = total-take_out f x ys (in_rest x y ys e h) in rw e (omega arith))

pub length-take_out : (x : ℕ) (ys : List ℕ) → 0 < tally x ys → length (take_out x ys) + 1 ≡ length ys
length-take_out x [] h = absurd (omega arith)
length-take_out x (y ∷ ys) h = by_test (y == x)
    (λ e. rw e (omega arith))
    (λ e. let k : length (take_out x ys) + 1 ≡ length ys = length-take_out x ys (in_rest x y ys e h) in rw e (omega arith))

head_there : (x : ℕ) (xs : List ℕ) → 0 < tally x (x ∷ xs)
head_there x xs = rw (same_test x) (omega arith)

-- the rest of xs is within what is left
narrowed : (x : ℕ) (xs ys : List ℕ) → ((z : ℕ) → tally z (x ∷ xs) ≤ 1) → ((z : ℕ) → 0 < tally z (x ∷ xs) → 0 < tally z ys) →
    (z : ℕ) → 0 < tally z xs → 0 < tally z (take_out x ys)
narrowed x xs ys once there z h =
    let e : tally z (take_out x ys) + cond (x == z) 1 0 ≡ tally z ys = tally-take_out z x ys (there x (head_there x xs)) in
    let o : tally z (x ∷ xs) ≤ 1 = once z in
    let t : 0 < tally z ys = there z (omega arith) in
    omega arith

pub total_le : (f : ℕ → ℕ) (xs ys : List ℕ) → ((z : ℕ) → tally z xs ≤ 1) → ((z : ℕ) → 0 < tally z xs → 0 < tally z ys) → total f xs ≤ total f ys
total_le f [] ys once there = omega arith
total_le f (x ∷ xs) ys once there =
    let k : total f xs ≤ total f (take_out x ys) = total_le f xs (take_out x ys) (λ z. let o : tally z (x ∷ xs) ≤ 1 = once z in omega arith) (narrowed x xs ys once there) in
    let e : total f (take_out x ys) + f x ≡ total f ys = total-take_out f x ys (there x (head_there x xs)) in omega arith

pub length_le : (xs ys : List ℕ) → ((z : ℕ) → tally z xs ≤ 1) → ((z : ℕ) → 0 < tally z xs → 0 < tally z ys) → length xs ≤ length ys
length_le [] ys once there = omega arith
length_le (x ∷ xs) ys once there =
    let k : length xs ≤ length (take_out x ys) = length_le xs (take_out x ys) (λ z. let o : tally z (x ∷ xs) ≤ 1 = once z in omega arith) (narrowed x xs ys once there) in
    let e : length (take_out x ys) + 1 ≡ length ys = length-take_out x ys (there x (head_there x xs)) in omega arith

pub total-append : (f : ℕ → ℕ) (xs ys : List ℕ) → total f (xs ++ ys) ≡ total f xs + total f ys
total-append f [] ys = omega arith
total-append f (x ∷ xs) ys = let e : total f (xs ++ ys) ≡ total f xs + total f ys = total-append f xs ys in omega arith

pub missing_more : (T us : List ℕ) (i u : ℕ) → i < length us → u ≡ get_or us i 0 → missing T (take i us) + missing T (u ∷ []) ≡ missing T (take (i + 1) us)
missing_more T us i u h e = sym (ap (missing T) (take_more us i 0 h) ∙ missing-append T (take i us) (get_or us i 0 ∷ []) ∙ ap (λ (w : ℕ). missing T (take i us) + missing T (w ∷ [])) (sym e))

pub missing_one : (T : List ℕ) (u : ℕ) → 0 < tally u T → missing T (u ∷ []) ≡ 0
missing_one T u h = let f : (tally u T == 0) ≡ false = grind (arith, nat_tests) in rw f (omega arith)

pub missing_one_not : (T : List ℕ) (u : ℕ) → (0 < tally u T → ⊥) → missing T (u ∷ []) ≡ 1
missing_one_not T u h = by_test (tally u T == 0) (λ f. rw f (omega arith)) (λ f. absurd (h (grind (arith, nat_tests))))

pub tally_more : (x : ℕ) (us : List ℕ) (i u : ℕ) → i < length us → u ≡ get_or us i 0 → tally x (take i us) + cond (u == x) 1 0 ≡ tally x (take (i + 1) us)
tally_more x us i u h e =
    let k : tally x (take (i + 1) us) ≡ tally x (take i us) + tally x (get_or us i 0 ∷ []) = ap (tally x) (take_more us i 0 h) ∙ tally-append x (take i us) (get_or us i 0 ∷ []) in
    let m : tally x (take (i + 1) us) ≡ tally x (take i us) + tally x (u ∷ []) = subst (λ (w : ℕ). tally x (take (i + 1) us) ≡ tally x (take i us) + tally x (w ∷ [])) (sym e) k in
    omega arith

pub tally-take_le : (x n : ℕ) (us : List ℕ) → tally x (take n us) ≤ tally x us
tally-take_le x zero us = omega arith
tally-take_le x (suc n) [] = omega arith
tally-take_le x (suc n) (u ∷ us) = let k : tally x (take n us) ≤ tally x us = tally-take_le x n us in omega arith
