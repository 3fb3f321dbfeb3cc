-- Lists of keys under keys, after a call.
use Rattle.std.proofs.Common.{◌≡◌, ◌≢◌, ℕ, zero, suc, ◌+◌, ◌-◌, ◌<◌, ◌≤◌, ◌^◌, ◌==◌, false, cond, not, eqb, List, [], ◌∷◌, ◌++◌, length, get_or, set, Some, None, vec_len, vec_capacity, refl, sym, ◌∙◌, ap, subst, arith}
use Rattle.std.specs.List.{position, prefix_len, swap_remove}
use Rattle.std.specs.declared.vec.Vec.{Vec}
use Rattle.std.specs.declared.alloc.Global.{Global}
use Rattle.std.proofs.lemmas.Bool.{eqb-true, eqb-false}
use Rattle.std.proofs.lemmas.Bool.Decides.{nat_tests}
use Rattle.std.proofs.lemmas.List.{length-append}
use Rattle.std.proofs.lemmas.List.Sorted.{IsPermutation-swap_remove}
use Rattle.std.proofs.lemmas.List.Quantifiers.{position-Some}
use Rattle.std.specs.Prelude.{nat_lt, nat_eq}
use Rattle.pd_order.specs.Graph.{tally}
use Rattle.pd_order.proofs.Basics.{by_test, same_node, other_node, other_test, tally-append}
use Rattle.pd_order.proofs.FoldLemmas.{tally-IsPermutation}
use Rattle.pd_chain.proofs.PlaceLemmas.{length_alike}
use Rattle.pd_links.specs.Rows.{keys_in, keys_at, spare_in, spare_at, AreFew, SameRows, OthersStay}

pub same_rows : (rows : List (Vec ℕ Global)) → SameRows rows rows
same_rows rows = record { keys = λ k. refl; spare = λ k. omega arith }

pub rows_more : (a b c : List (Vec ℕ Global)) → SameRows a b → SameRows b c → SameRows a c
rows_more a b c s t = record { keys = λ k. t.keys k ∙ s.keys k; spare = λ k. let x = s.spare k in let y = t.spare k in omega arith }

-- with an empty list more
keys_pushed : (rows : List (Vec ℕ Global)) (v : Vec ℕ Global) (k : ℕ) → v.items ≡ [] → keys_at (rows ++ v ∷ []) k ≡ keys_at rows k
keys_pushed [] v zero e = e
keys_pushed [] v (suc k) e = refl
keys_pushed (r ∷ rows) v zero e = refl
keys_pushed (r ∷ rows) v (suc k) e = keys_pushed rows v k e

spare_pushed : (rows : List (Vec ℕ Global)) (v : Vec ℕ Global) (k : ℕ) → spare_at rows k ≤ spare_at (rows ++ v ∷ []) k
spare_pushed [] v zero = omega arith
spare_pushed [] v (suc k) = omega arith
spare_pushed (r ∷ rows) v zero = omega arith
spare_pushed (r ∷ rows) v (suc k) = spare_pushed rows v k

pub rows_pushed : (rows : List (Vec ℕ Global)) (v : Vec ℕ Global) → v.items ≡ [] → SameRows rows (rows ++ v ∷ [])
rows_pushed rows v e = record { keys = λ k. keys_pushed rows v k e; spare = spare_pushed rows v }

-- with another list of the same keys in the place of one
pub keys_set : (rows : List (Vec ℕ Global)) (i k : ℕ) (v : Vec ℕ Global) → v.items ≡ keys_at rows i → keys_at (set rows i v) k ≡ keys_at rows k
keys_set [] i k v e = refl
keys_set (r ∷ rows) zero zero v e = e
keys_set (r ∷ rows) zero (suc k) v e = refl
keys_set (r ∷ rows) (suc i) zero v e = refl
keys_set (r ∷ rows) (suc i) (suc k) v e = keys_set rows i k v e

spare_set : (rows : List (Vec ℕ Global)) (i k : ℕ) (v : Vec ℕ Global) → spare_at rows i ≤ vec_capacity v - vec_len v → spare_at rows k ≤ spare_at (set rows i v) k
spare_set [] i k v e = omega arith
spare_set (r ∷ rows) zero zero v e = e
spare_set (r ∷ rows) zero (suc k) v e = omega arith
spare_set (r ∷ rows) (suc i) zero v e = omega arith
spare_set (r ∷ rows) (suc i) (suc k) v e = spare_set rows i k v e

pub rows_set : (rows : List (Vec ℕ Global)) (i : ℕ) (v : Vec ℕ Global) → v.items ≡ keys_at rows i → spare_at rows i ≤ vec_capacity v - vec_len v → SameRows rows (set rows i v)
rows_set rows i v e h = record { keys = λ k. keys_set rows i k v e; spare = λ k. spare_set rows i k v h }

pub spare_there : (rows : List (Vec ℕ Global)) (i : ℕ) (v : Vec ℕ Global) → i < length rows → spare_at (set rows i v) i ≡ vec_capacity v - vec_len v
spare_there [] i v l = absurd (omega arith)
spare_there (r ∷ rows) zero v l = refl
spare_there (r ∷ rows) (suc i) v l = spare_there rows i v (omega arith)

-- a key that a search doesn't find isn't there
passed_all : (x : ℕ) (xs : List ℕ) → length xs ≤ prefix_len (λ y. not (nat_eq x y)) xs → tally x xs ≡ 0
passed_all x [] l = refl
passed_all x (y ∷ ys) l = by_test (eqb x y)
    (λ t. let k : suc (length ys) ≤ 0 = rw t at l in absurd (omega arith))
    (λ t. let k : suc (length ys) ≤ 1 + prefix_len (λ z. not (nat_eq x z)) ys = rw t at l in
    let n : (y == x) ≡ false = other_test y x (λ e. eqb-false x y t (sym e)) in
    let ih : tally x ys ≡ 0 = passed_all x ys (omega arith) in rw n (omega arith))

pub not_found : (x : ℕ) (xs : List ℕ) → position (nat_eq x) xs ≡ None → tally x xs ≡ 0
not_found x xs h = by_test (nat_lt (prefix_len (λ y. not (nat_eq x y)) xs) (length xs))
    (λ t. absurd (some_none (sym (rw t at h))))
    (λ t. passed_all x xs (grind (arith, nat_tests)))
  where
    some_none : {n : ℕ} → None ≡ Some n → ⊥
    some_none q = cc

pub found_key : (x i : ℕ) (xs : List ℕ) → position (nat_eq x) xs ≡ Some i → (i < length xs) × (x ≡ get_or xs i x)
found_key x i xs h = let p = position-Some (nat_eq x) xs i x h in (p.0, eqb-true x (get_or xs i x) p.1)

pub swapped_out : (xs : List ℕ) (i x u : ℕ) → i < length xs → x ≡ get_or xs i x → tally u xs ≡ tally u (x ∷ swap_remove xs i x)
swapped_out xs i x u l e = sym (tally-IsPermutation u xs (x ∷ swap_remove xs i x) (IsPermutation-swap_remove xs i x l e))

-- the list under a key that is there
keys_here : (rows : List (Vec ℕ Global)) (i : ℕ) (d : Vec ℕ Global) → i < length rows → keys_at rows i ≡ (get_or rows i d).items
keys_here [] i d l = absurd (omega arith)
keys_here (r ∷ rows) zero d l = refl
keys_here (r ∷ rows) (suc i) d l = keys_here rows i d (omega arith)

spare_here : (rows : List (Vec ℕ Global)) (i : ℕ) (d : Vec ℕ Global) → i < length rows → spare_at rows i ≡ vec_capacity (get_or rows i d) - vec_len (get_or rows i d)
spare_here [] i d l = absurd (omega arith)
spare_here (r ∷ rows) zero d l = refl
spare_here (r ∷ rows) (suc i) d l = spare_here rows i d (omega arith)

keys_there : (rows : List (Vec ℕ Global)) (i : ℕ) (v : Vec ℕ Global) → i < length rows → keys_at (set rows i v) i ≡ v.items
keys_there [] i v l = absurd (omega arith)
keys_there (r ∷ rows) zero v l = refl
keys_there (r ∷ rows) (suc i) v l = keys_there rows i v (omega arith)

pub others_set : (rows : List (Vec ℕ Global)) (i : ℕ) (v : Vec ℕ Global) → OthersStay rows (set rows i v) i
others_set [] i v k n = refl
others_set (r ∷ rows) zero v zero n = absurd (n refl)
others_set (r ∷ rows) zero v (suc k) n = refl
others_set (r ∷ rows) (suc i) v zero n = refl
others_set (r ∷ rows) (suc i) v (suc k) n = others_set rows i v k (λ e. n (ap suc e))

pub put_keys : (rows : List (Vec ℕ Global)) (i other : ℕ) (d w : Vec ℕ Global) → i < length rows → w.items ≡ (get_or rows i d).items ++ other ∷ [] → keys_at (set rows i w) i ≡ keys_at rows i ++ other ∷ []
put_keys rows i other d w l h = keys_there rows i w l ∙ h ∙ ap (λ (ks : List ℕ). ks ++ other ∷ []) (sym (keys_here rows i d l))

pub put_spare : (rows : List (Vec ℕ Global)) (i : ℕ) (d w : Vec ℕ Global) → i < length rows → vec_len w ≡ vec_len (get_or rows i d) + 1 → vec_capacity w ≡ vec_capacity (get_or rows i d) → 0 < spare_at rows i → spare_at (set rows i w) i + 1 ≡ spare_at rows i
put_spare rows i d w l n c h =
    let a : spare_at (set rows i w) i ≡ vec_capacity w - vec_len w = spare_there rows i w l in
    let b : spare_at rows i ≡ vec_capacity (get_or rows i d) - vec_len (get_or rows i d) = spare_here rows i d l in omega arith

pub has_room : (rows : List (Vec ℕ Global)) (i : ℕ) (d : Vec ℕ Global) → i < length rows → 0 < spare_at rows i → vec_len (get_or rows i d) < vec_capacity (get_or rows i d)
has_room rows i d l h = let b : spare_at rows i ≡ vec_capacity (get_or rows i d) - vec_len (get_or rows i d) = spare_here rows i d l in omega arith

pub is_listed : (rows : List (Vec ℕ Global)) (i other : ℕ) (d : Vec ℕ Global) → i < length rows → 0 < tally other (keys_at rows i) → 0 < tally other (get_or rows i d).items
is_listed rows i other d l h = subst (λ (ks : List ℕ). 0 < tally other ks) (keys_here rows i d l) h

pub take_keys : (rows : List (Vec ℕ Global)) (i other u : ℕ) (d w : Vec ℕ Global) → i < length rows → tally u (get_or rows i d).items ≡ tally u (other ∷ w.items) → tally u (keys_at rows i) ≡ tally u (other ∷ keys_at (set rows i w) i)
take_keys rows i other u d w l h = ap (tally u) (keys_here rows i d l) ∙ h ∙ ap (λ (ks : List ℕ). tally u (other ∷ ks)) (sym (keys_there rows i w l))

pub widened : (rows : List (Vec ℕ Global)) (i : ℕ) (d w : Vec ℕ Global) → i < length rows → w.items ≡ (get_or rows i d).items → vec_len w ≡ vec_len (get_or rows i d) → vec_capacity (get_or rows i d) ≤ vec_capacity w → SameRows rows (set rows i w)
widened rows i d w l h n c = rows_set rows i w (h ∙ sym (keys_here rows i d l)) (let b : spare_at rows i ≡ vec_capacity (get_or rows i d) - vec_len (get_or rows i d) = spare_here rows i d l in omega arith)

-- a key that has a list with room, or with keys, is there
pub there_by_room : (rows : List (Vec ℕ Global)) (i : ℕ) → 0 < spare_at rows i → i < length rows
there_by_room [] i h = absurd (omega arith)
there_by_room (r ∷ rows) zero h = omega arith
there_by_room (r ∷ rows) (suc i) h = let k : i < length rows = there_by_room rows i h in omega arith

pub there_by_key : (rows : List (Vec ℕ Global)) (i other : ℕ) → 0 < tally other (keys_at rows i) → i < length rows
there_by_key [] i other h = absurd (omega arith)
there_by_key (r ∷ rows) zero other h = omega arith
there_by_key (r ∷ rows) (suc i) other h = let k : i < length rows = there_by_key rows i other h in omega arith

-- one key more under one key
pub one_more : (rows rows' : List (Vec ℕ Global)) (k v x u : ℕ) → keys_at rows' k ≡ keys_at rows k ++ v ∷ [] → OthersStay rows rows' k → tally u (keys_at rows' x) ≡ tally u (cond (x == k) (v ∷ keys_at rows x) (keys_at rows x))
one_more rows rows' k v x u h o = by_test (x == k)
    (λ t. let e : x ≡ k = same_node x k t in
    let q : tally u (keys_at rows' k) ≡ tally u (keys_at rows k ++ v ∷ []) = ap (tally u) h in
    let p : tally u (keys_at rows k ++ v ∷ []) ≡ tally u (keys_at rows k) + tally u (v ∷ []) = tally-append u (keys_at rows k) (v ∷ []) in
    let r : tally u (keys_at rows' k) ≡ tally u (v ∷ keys_at rows k) = omega arith in
    rw t (subst (λ (n : ℕ). tally u (keys_at rows' n) ≡ tally u (v ∷ keys_at rows n)) (sym e) r))
    (λ t. rw t (ap (λ o. tally u (keys_in o)) (o x (other_node x k t))))

-- one key less under one key
pub one_less : (rows rows' : List (Vec ℕ Global)) (k v x u : ℕ) → tally u (keys_at rows k) ≡ tally u (v ∷ keys_at rows' k) → OthersStay rows rows' k → tally u (keys_at rows x) ≡ tally u (cond (x == k) (v ∷ keys_at rows' x) (keys_at rows' x))
one_less rows rows' k v x u h o = by_test (x == k)
    (λ t. let e : x ≡ k = same_node x k t in rw t (subst (λ (n : ℕ). tally u (keys_at rows n) ≡ tally u (v ∷ keys_at rows' n)) (sym e) h))
    (λ t. rw t (sym (ap (λ o. tally u (keys_in o)) (o x (other_node x k t)))))

pub few_less : (rows rows' : List (Vec ℕ Global)) (k v : ℕ) → ((u : ℕ) → tally u (keys_at rows k) ≡ tally u (v ∷ keys_at rows' k)) → OthersStay rows rows' k → AreFew rows → AreFew rows'
few_less rows rows' k v h o few x = by_test (x == k)
    (λ t. let e : x ≡ k = same_node x k t in
    let n : length (keys_at rows k) ≡ length (v ∷ keys_at rows' k) = length_alike (keys_at rows k) (v ∷ keys_at rows' k) h in
    let f = few k in subst (λ (n : ℕ). length (keys_at rows' n) + 1 < 2 ^ 32) (sym e) (omega arith))
    (λ t. subst (λ q. length (keys_in q) + 1 < 2 ^ 32) (sym (o x (other_node x k t))) (few x))

-- where a key goes, room stays
pub take_spare : (rows : List (Vec ℕ Global)) (i other : ℕ) (d w : Vec ℕ Global) → i < length rows → ((u : ℕ) → tally u (get_or rows i d).items ≡ tally u (other ∷ w.items))
    → vec_capacity w ≡ vec_capacity (get_or rows i d) → spare_at rows i ≤ spare_at (set rows i w) i
take_spare rows i other d w l h c =
    let n = length_alike (get_or rows i d).items (other ∷ w.items) h in
    let a = spare_there rows i w l in
    let b = spare_here rows i d l in
    let x = w.ok.0 in
    let y = (get_or rows i d).ok.0 in
    omega (arith, n, a, b, c, x, y)

-- so many keys more come under a key without memory, and can be counted
abbrev pub TakesKeys : List (Vec ℕ Global) → ℕ → ℕ → Type 0
TakesKeys rows x n = (n ≤ spare_at rows x) × (length (keys_at rows x) + n + 1 < 2 ^ 32)

pub takes_other : (rows rows' : List (Vec ℕ Global)) (k x n : ℕ) → OthersStay rows rows' k → x ≢ k → TakesKeys rows x n → TakesKeys rows' x n
takes_other rows rows' k x n o differ T = subst (λ q. (n ≤ spare_in q) × (length (keys_in q) + n + 1 < 2 ^ 32)) (sym (o x differ)) T

pub takes_less : (rows rows' : List (Vec ℕ Global)) (k v x n : ℕ) → ((u : ℕ) → tally u (keys_at rows k) ≡ tally u (v ∷ keys_at rows' k)) → spare_at rows k ≤ spare_at rows' k
    → OthersStay rows rows' k → TakesKeys rows x n → TakesKeys rows' x n
takes_less rows rows' k v x n h s o T = by_test (x == k)
    (λ t. subst (λ (y : ℕ). TakesKeys rows y n → TakesKeys rows' y n) (sym (same_node x k t))
    (λ (A : TakesKeys rows k n).
    let e : length (keys_at rows k) ≡ length (v ∷ keys_at rows' k) = length_alike (keys_at rows k) (v ∷ keys_at rows' k) h in
    let a = A.0 in let b = A.1 in (omega (arith, a, s), omega (arith, b, e))) T)
    (λ t. takes_other rows rows' k x n o (other_node x k t) T)

pub takes_more : (rows rows' : List (Vec ℕ Global)) (k v n : ℕ) → keys_at rows' k ≡ keys_at rows k ++ v ∷ [] → spare_at rows' k + 1 ≡ spare_at rows k
    → TakesKeys rows k (n + 1) → TakesKeys rows' k n
takes_more rows rows' k v n h s T =
    let e : length (keys_at rows' k) ≡ length (keys_at rows k) + 1 = ap length h ∙ length-append (keys_at rows k) (v ∷ []) in
    let a = T.0 in let b = T.1 in (omega (arith, a, s), omega (arith, b, e))
