-- A graph has one order, and the orders of graphs that differ by one wire meet.
use Rattle.std.proofs.Common.{◌≡◌, ℕ, zero, suc, ◌+◌, ◌<◌, ◌≤◌, ◌==◌, List, [], ◌∷◌, ◌++◌, length, get_or, take, drop, refl, sym, ◌∙◌, ap, subst, arith, append_assoc}
use Rattle.std.specs.Prelude.{Some, None, slice_get}
use Rattle.std.proofs.lemmas.Option.{slice_get-get_or}
use Rattle.std.proofs.lemmas.List.{append-nil, take-append-drop, take_all, take_more, take_more_same}
use Rattle.pd_order.proofs.Basics.{by_test, same_node, same_test, other_node, in_rest, tally-append, length_le, ltb', ltb-true', ltb-false'}
use Rattle.pd_order.proofs.OrderLemmas.{AreAlike, alike_back, AreNext_split, AreNext_alike, ended_alike, ready_alike, next_at, next_once, chain_once}
use Rattle.pd_order.proofs.CutLemmas.{add_alike, ready_without'}
use Rattle.pd_order.proofs.BoundLemmas.{nothing_past, agree_places}
use Rattle.pd_order.proofs.LookLemmas.{within_all}
use Rattle.pd_order.specs.Graph.{Graph, tally, IsLawful, IsReady, IsNext, AreNext, IsLeast, AreByRank, IsOrder, add_wire}
use Rattle.pd_order.specs.Window.{Agree}
use Rattle.pd_order.specs.Laws.{HasOneOrder, PickAlike, HaveMet, FoldsMeet}

one_chain : (g : Graph) (ns done xs ys : List ℕ) → IsLawful g ns → AreNext g ns done xs → AreNext g ns done ys → ((x : ℕ) → IsReady g ns (done ++ xs) x → ⊥) → ((x : ℕ) → IsReady g ns (done ++ ys) x → ⊥) → xs ≡ ys
one_chain g ns done [] [] law a b p q = refl
one_chain g ns done [] (y ∷ ys) law a b p q = absurd (p y (subst (λ (l : List ℕ). IsReady g ns l y) (sym (append-nil done)) b.0.ready))
one_chain g ns done (x ∷ xs) [] law a b p q = absurd (q x (subst (λ (l : List ℕ). IsReady g ns l x) (sym (append-nil done)) a.0.ready))
one_chain g ns done (x ∷ xs) (y ∷ ys) law a b p q =
    let e : x ≡ y = next_once g ns done x y law a.0 b.0 in
    let b' : AreNext g ns (done ++ x ∷ []) ys = subst (λ (v : ℕ). AreNext g ns (done ++ v ∷ []) ys) (sym e) b.1 in
    let q' : (z : ℕ) → IsReady g ns (done ++ x ∷ ys) z → ⊥ = subst (λ (v : ℕ). (z : ℕ) → IsReady g ns (done ++ v ∷ ys) z → ⊥) (sym e) q in
    let k : xs ≡ ys = one_chain g ns (done ++ x ∷ []) xs ys law a.1 b'
    (λ z r. p z (subst (λ (l : List ℕ). IsReady g ns l z) (append_assoc done (x ∷ []) xs) r))
    (λ z r. q' z (subst (λ (l : List ℕ). IsReady g ns l z) (append_assoc done (x ∷ []) ys) r)) in
    ap (λ (l : List ℕ). x ∷ l) k ∙ ap (λ (v : ℕ). v ∷ ys) e

least_in : (g : Graph) (x z : ℕ) (xs : List ℕ) → IsLeast g x xs → 0 < tally z xs → g.rank x < g.rank z
least_in g x z [] l h = absurd (omega arith)
least_in g x z (y ∷ xs) l h = by_test (y == z)
    (λ t. subst (λ (v : ℕ). g.rank x < g.rank v) (same_node y z t) l.0)
    (λ t. least_in g x z xs l.1 (in_rest z y xs t h))

first_least : (g : Graph) (x z : ℕ) (xs : List ℕ) → AreByRank g (x ∷ xs) → 0 < tally z (x ∷ xs) → g.rank x ≤ g.rank z
first_least g x z xs a h = by_test (x == z)
    (λ t. let e : x ≡ z = same_node x z t in subst (λ (v : ℕ). g.rank x ≤ g.rank v) e (le_same (g.rank x)))
    (λ t. let k : g.rank x < g.rank z = least_in g x z xs a.0 (in_rest z x xs t h) in omega arith)
  where
    le_same : (n : ℕ) → n ≤ n
    le_same n = omega arith

head_there : (x : ℕ) (xs : List ℕ) → 0 < tally x (x ∷ xs)
head_there x xs = rw (same_test x) (omega arith)

one_by_rank : (g : Graph) (ns xs ys : List ℕ) → IsLawful g ns → ((x : ℕ) → 0 < tally x xs → 0 < tally x ns) → ((x : ℕ) → tally x xs ≡ tally x ys) → AreByRank g xs → AreByRank g ys → xs ≡ ys
one_by_rank g ns [] [] law n h a b = refl
one_by_rank g ns [] (y ∷ ys) law n h a b = absurd (let k : 0 < tally y (y ∷ ys) = head_there y ys in let e : 0 ≡ tally y (y ∷ ys) = h y in omega arith)
one_by_rank g ns (x ∷ xs) [] law n h a b = absurd (let k : 0 < tally x (x ∷ xs) = head_there x xs in let e : tally x (x ∷ xs) ≡ 0 = h x in omega arith)
one_by_rank g ns (x ∷ xs) (y ∷ ys) law n h a b =
    let ix : 0 < tally x (x ∷ xs) = head_there x xs in
    let iy : 0 < tally y (y ∷ ys) = head_there y ys in
    let hx : tally x (x ∷ xs) ≡ tally x (y ∷ ys) = h x in
    let hy : tally y (x ∷ xs) ≡ tally y (y ∷ ys) = h y in
    let p : g.rank y ≤ g.rank x = first_least g y x ys b (omega arith) in
    let q : g.rank x ≤ g.rank y = first_least g x y xs a (omega arith) in
    let e : x ≡ y = law.apart x y (n x ix) (n y (omega arith)) (omega arith) in
    let k : xs ≡ ys = one_by_rank g ns xs ys law (λ z l. n z (omega arith))
    (λ z. let m : tally z (x ∷ xs) ≡ tally z (y ∷ ys) = h z in let m' : tally z (x ∷ xs) ≡ tally z (x ∷ ys) = subst (λ (v : ℕ). tally z (x ∷ xs) ≡ tally z (v ∷ ys)) (sym e) m in omega arith) a.1 b.1 in
    ap (λ (l : List ℕ). x ∷ l) k ∙ ap (λ (v : ℕ). v ∷ ys) e

pub one_order : (g : Graph) (ns : List ℕ) → IsLawful g ns → HasOneOrder g ns
one_order g ns law C S D U a b =
    let e : C ≡ D = one_chain g ns [] C D law a.listed b.listed a.ended b.ended in (
      e,
      one_by_rank g ns S U law (λ x l. let r : tally x S + tally x C ≡ tally x ns = a.rest x in omega arith)
          (λ x. let r : tally x S + tally x C ≡ tally x ns = a.rest x in let s : tally x U + tally x D ≡ tally x ns = b.rest x in
          let d : tally x C ≡ tally x D = ap (tally x) e in omega arith) a.by_rank b.by_rank,
    )

-- a node that isn't v is the next in both graphs or in none
same_next : (g h : Graph) (v : ℕ) (ns T : List ℕ) (x y : ℕ) → IsLawful g ns → AreAlike g h v → (x ≡ v → ⊥) → (y ≡ v → ⊥) → IsNext g ns T x → IsNext h ns T y → x ≡ y
same_next g h v ns T x y law a nx ny p q =
    let px : IsReady h ns T x = ready_alike g h v ns T T x a (λ u. refl) nx p.ready in
    let qy : IsReady g ns T y = ready_alike h g v ns T T y (alike_back g h v a) (λ u. refl) ny q.ready in
    let i : g.rank x ≤ g.rank y = p.least y qy in
    let j : h.rank y ≤ h.rank x = q.least x px in
    let j' : g.rank y ≤ g.rank x = subst (λ (r : ℕ → ℕ). r y ≤ r x) (sym a.ranks) j in
    law.apart x y p.ready.node qy.node (omega arith)

picks : (v : ℕ) (xs ys : List ℕ) (i : ℕ) → PickAlike v xs ys i → i < length xs → get_or xs i 0 ≡ v → slice_get ys i ≡ Some v
picks v xs ys i p l e = p.0 (slice_get-get_or xs i 0 l ∙ ap Some e)

at_pick : (v : ℕ) (ys : List ℕ) (i : ℕ) → i < length ys → slice_get ys i ≡ Some v → get_or ys i 0 ≡ v
at_pick v ys i l e = let q : Some (get_or ys i 0) ≡ Some v = sym (slice_get-get_or ys i 0 l) ∙ e in cc

no_pick : (v : ℕ) (ys : List ℕ) (i : ℕ) → length ys ≤ i → slice_get ys i ≡ Some v → ⊥
no_pick v ys i l e = let q : None ≡ Some v = sym (nothing_past ys i l) ∙ e in cc

-- one chain goes on where the other has ended alike, only by v
goes_on : (g h : Graph) (v : ℕ) (ns C D : List ℕ) (k : ℕ) → AreAlike g h v → AreNext g ns [] C → ((x : ℕ) → IsReady h ns D x → ⊥) → take k C ≡ take k D → k < length C → length D ≤ k → get_or C k 0 ≡ v
goes_on g h v ns C D k a n ended e l m = by_test (get_or C k 0 == v)
    (λ t. same_node (get_or C k 0) v t)
    (λ t. absurd (ended (get_or C k 0) (subst (λ (T : List ℕ). IsReady h ns T (get_or C k 0)) (e ∙ take_all k D m)
    (ready_alike g h v ns (take k C) (take k C) (get_or C k 0) a (λ u. refl) (other_node (get_or C k 0) v t) ((next_at g ns C k n l).ready)))))

fronts : (g h : Graph) (v : ℕ) (ns C D S U : List ℕ) → IsLawful g ns → AreAlike g h v → IsOrder g ns C S → IsOrder h ns D U → (k : ℕ) → ((i : ℕ) → i < k → PickAlike v C D i) → take k C ≡ take k D
fronts g h v ns C D S U law a o n zero p = refl
fronts g h v ns C D S U law a o n (suc k) p =
    let e : take k C ≡ take k D = fronts g h v ns C D S U law a o n k (λ i l. p i (omega arith)) in
    let w : PickAlike v C D k = p k (omega arith) in
    let s : k + 1 ≡ suc k = omega arith in
    let le_all : (xs : List ℕ) → length xs ≤ k → take (suc k) xs ≡ take k xs = λ xs l. take_all (suc k) xs (omega arith) ∙ sym (take_all k xs l) in
    by_test (ltb' k (length C))
    (λ t. let lc : k < length C = ltb-true' k (length C) t in
    by_test (ltb' k (length D))
    (λ u. let ld : k < length D = ltb-true' k (length D) u in
    let nc : IsNext g ns (take k C) (get_or C k 0) = next_at g ns C k o.listed lc in
    let nd : IsNext h ns (take k C) (get_or D k 0) = subst (λ (T : List ℕ). IsNext h ns T (get_or D k 0)) (sym e) (next_at h ns D k n.listed ld) in
    let q : get_or C k 0 ≡ get_or D k 0 = by_test (get_or C k 0 == v)
    (λ f. let cv : get_or C k 0 ≡ v = same_node (get_or C k 0) v f in cv ∙ sym (at_pick v D k ld (picks v C D k w lc cv)))
    (λ f. let cn : get_or C k 0 ≡ v → ⊥ = other_node (get_or C k 0) v f in
    same_next g h v ns (take k C) (get_or C k 0) (get_or D k 0) law a cn (λ dv. cn (at_pick v C k lc (w.1 (slice_get-get_or D k 0 ld ∙ ap Some dv)))) nc nd) in
    subst (λ (m : ℕ). take m C ≡ take m D) s (take_more_same C D k 0 lc ld e q))
    (λ u. let ld : length D ≤ k = ltb-false' k (length D) u in
    absurd (no_pick v D k ld (picks v C D k w lc (goes_on g h v ns C D k a o.listed n.ended e lc ld)))))
    (λ t. let lc : length C ≤ k = ltb-false' k (length C) t in
    by_test (ltb' k (length D))
    (λ u. let ld : k < length D = ltb-true' k (length D) u in
    let dv : get_or D k 0 ≡ v = goes_on h g v ns D C k (alike_back g h v a) n.listed o.ended (sym e) ld lc in
    absurd (no_pick v C k lc (w.1 (slice_get-get_or D k 0 ld ∙ ap Some dv))))
    (λ u. le_all C lc ∙ e ∙ sym (le_all D (ltb-false' k (length D) u))))

onward : (g h : Graph) (v : ℕ) (ns C D S U : List ℕ) → IsLawful g ns → AreAlike g h v → IsOrder g ns C S → IsOrder h ns D U → (k : ℕ) → HaveMet C D k → 0 < tally v (take k C) → drop k C ≡ drop k D
onward g h v ns C D S U law a o n k m l =
    let b : AreAlike h g v = alike_back g h v a in
    let back : (x : ℕ) → tally x (take k D) ≡ tally x (take k C) = λ x. sym (m x) in
    let lv : 0 < tally v (take k D) = (let q : tally v (take k C) ≡ tally v (take k D) = m v in omega arith) in
    let split : (xs : List ℕ) → xs ≡ take k xs ++ drop k xs = λ xs. sym (take-append-drop k xs) in
    let p : AreNext g ns (take k C) (drop k C) = (AreNext_split g ns [] (take k C) (drop k C) (subst (λ (l : List ℕ). AreNext g ns [] l) (split C) o.listed)).1 in
    let q : AreNext h ns (take k D) (drop k D) = (AreNext_split h ns [] (take k D) (drop k D) (subst (λ (l : List ℕ). AreNext h ns [] l) (split D) n.listed)).1 in
    let q' : AreNext g ns (take k C) (drop k D) = AreNext_alike h g v ns (take k D) (take k C) (drop k D) b back lv q in
    let same : (x : ℕ) → tally x D ≡ tally x (take k C ++ drop k D) = λ x.
    let d : tally x D ≡ tally x (take k D) + tally x (drop k D) = ap (tally x) (split D) ∙ tally-append x (take k D) (drop k D) in
    let f : tally x (take k C ++ drop k D) ≡ tally x (take k C) + tally x (drop k D) = tally-append x (take k C) (drop k D) in
    let r : tally x (take k C) ≡ tally x (take k D) = m x in omega arith in
    let there : 0 < tally v D = (let d : tally v D ≡ tally v (take k D) + tally v (drop k D) = ap (tally v) (split D) ∙ tally-append v (take k D) (drop k D) in omega arith) in
    one_chain g ns (take k C) (drop k C) (drop k D) law p q'
    (λ x r. o.ended x (subst (λ (l : List ℕ). IsReady g ns l x) (take-append-drop k C) r))
    (ended_alike h g v ns D (take k C ++ drop k D) b same there n.ended)

parted : (C D : List ℕ) (k : ℕ) → HaveMet C D (k + 1) → Agree C D k → HaveMet C D k
parted C D k m e x = by_test (ltb' k (length C))
    (λ t. let lc : k < length C = ltb-true' k (length C) t in
    by_test (ltb' k (length D))
    (λ u. let ld : k < length D = ltb-true' k (length D) u in
    let q : get_or C k 0 ≡ get_or D k 0 = agree_places C D k e lc ld in
    let a : tally x (take (k + 1) C) ≡ tally x (take k C) + tally x (get_or C k 0 ∷ []) = ap (tally x) (take_more C k 0 lc) ∙ tally-append x (take k C) (get_or C k 0 ∷ []) in
    let b : tally x (take (k + 1) D) ≡ tally x (take k D) + tally x (get_or D k 0 ∷ []) = ap (tally x) (take_more D k 0 ld) ∙ tally-append x (take k D) (get_or D k 0 ∷ []) in
    let b' : tally x (take (k + 1) D) ≡ tally x (take k D) + tally x (get_or C k 0 ∷ []) = subst (λ (v : ℕ). tally x (take (k + 1) D) ≡ tally x (take k D) + tally x (v ∷ [])) (sym q) b in
    let r : tally x (take (k + 1) C) ≡ tally x (take (k + 1) D) = m x in omega arith)
    (λ u. absurd (let ld : length D ≤ k = ltb-false' k (length D) u in let q : Some (get_or C k 0) ≡ None = sym (slice_get-get_or C k 0 lc) ∙ e ∙ nothing_past D k ld in cc)))
    (λ t. let lc : length C ≤ k = ltb-false' k (length C) t in
    by_test (ltb' k (length D))
    (λ u. absurd (let ld : k < length D = ltb-true' k (length D) u in let q : None ≡ Some (get_or D k 0) = sym (nothing_past C k lc) ∙ e ∙ slice_get-get_or D k 0 ld in cc))
    (λ u. let ld : length D ≤ k = ltb-false' k (length D) u in
    let all : (xs : List ℕ) → length xs ≤ k → tally x (take (k + 1) xs) ≡ tally x (take k xs) = λ xs l. ap (tally x) (take_all (k + 1) xs (omega arith) ∙ sym (take_all k xs l)) in
    let a : tally x (take (k + 1) C) ≡ tally x (take k C) = all C lc in
    let b : tally x (take (k + 1) D) ≡ tally x (take k D) = all D ld in
    let r : tally x (take (k + 1) C) ≡ tally x (take (k + 1) D) = m x in omega arith))

-- a list with no repeats within another of the same length has all of it
filled : (xs ys : List ℕ) → ((x : ℕ) → tally x xs ≤ 1) → ((x : ℕ) → tally x ys ≤ 1) → ((x : ℕ) → 0 < tally x xs → 0 < tally x ys) → length ys ≤ length xs → (x : ℕ) → tally x ys ≡ tally x xs
filled xs ys ox oy inn l x = by_test (tally x xs == 0)
    (λ t. let z : tally x xs ≡ 0 = same_node (tally x xs) 0 t in
    by_test (tally x ys == 0)
    (λ u. let w : tally x ys ≡ 0 = same_node (tally x ys) 0 u in omega arith)
    (λ u. let w : tally x ys ≡ 0 → ⊥ = other_node (tally x ys) 0 u in
    let y1 : tally x ys ≤ 1 = oy x in
    let k : length (x ∷ xs) ≤ length ys = length_le (x ∷ xs) ys
    (λ y. by_test (x == y) (λ e. subst (λ (v : ℕ). tally v (x ∷ xs) ≤ 1) (same_node x y e) (rw (same_test x) (omega arith))) (λ e. let o : tally y xs ≤ 1 = ox y in rw e (omega arith)))
    (λ y h. by_test (x == y) (λ e. subst (λ (v : ℕ). 0 < tally v ys) (same_node x y e) (omega arith)) (λ e. inn y (in_rest y x xs e h))) in
    absurd (omega arith)))
    (λ t. let z : tally x xs ≡ 0 → ⊥ = other_node (tally x xs) 0 t in
    let h : 0 < tally x ys = inn x (omega arith) in let a : tally x xs ≤ 1 = ox x in let b : tally x ys ≤ 1 = oy x in omega arith)

pub meets : (g : Graph) (s v : ℕ) (ns C S D U : List ℕ) → IsLawful g ns → IsOrder g ns C S → IsOrder (add_wire g s v) ns D U → FoldsMeet v C D
meets g s v ns C S D U law o n =
    let h : Graph = add_wire g s v in
    let a : AreAlike g h v = alike_back h g v (add_alike g s v) in
    let inn : (x : ℕ) → 0 < tally x D → 0 < tally x C = within_all g h ns D C n.listed o.ended (λ T y r. ready_without' g s v ns T y r) in
    let oc : (x : ℕ) → tally x C ≤ 1 = chain_once g ns C o.listed in
    let od : (x : ℕ) → tally x D ≤ 1 = chain_once h ns D n.listed in
    record {
      front = fronts g h v ns C D S U law a o n;
      onward = onward g h v ns C D S U law a o n;
      parted = parted C D;
      longer = length_le D C od inn;
      never = λ e. filled D C od oc inn (omega arith);
    }
