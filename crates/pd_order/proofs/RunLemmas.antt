-- Steps of a run over the old chain.
use Rattle.std.proofs.Common.{◌≡◌, ℕ, zero, suc, ◌+◌, ◌<◌, ◌≤◌, ◌==◌, ◌-◌, ◌⊎◌, inl, inr, List, [], ◌∷◌, ◌++◌, length, get_or, take, drop, refl, sym, ◌∙◌, ap, subst, arith, append_assoc, length-append}
use Rattle.std.proofs.lemmas.List.{take-append-le, get_or_append_left, get_or_at, length-take-le, take-append-drop, get_or-drop, length-drop}
use Rattle.pd_order.proofs.Basics.{not_lt, ltb', ltb-true', ltb-false', by_test, zero_or, same_node, same_test, other_node, tally-append, tally-push_same, tally-push_other, tally-push_le, tally_at, at_tally, missing_le, all_listed, none_missing, length_le, tally-take_le}
use Rattle.pd_order.proofs.WorkLemmas.{put_at, put_other}
use Rattle.pd_order.specs.Graph.{Graph, tally, missing, IsReady, IsNext, AreNext}
use Rattle.pd_order.specs.Spots.{put}
use Rattle.pd_order.specs.Work.{IsAtWork, IsGoing, IsRunning, IsOld, IsWaiting}

pub AreNext-push : (g : Graph) (nodes done xs : List ℕ) (y : ℕ) → AreNext g nodes done xs → IsNext g nodes (done ++ xs) y → AreNext g nodes done (xs ++ y ∷ [])
AreNext-push g nodes done [] y a n = (subst (λ (l : List ℕ). IsNext g nodes l y) (append-nil' done) n, tt)
  where
    append-nil' : (l : List ℕ) → l ++ [] ≡ l
    append-nil' [] = refl
    append-nil' (x ∷ l) = ap (λ (k : List ℕ). x ∷ k) (append-nil' l)
AreNext-push g nodes done (x ∷ xs) y a n = (a.0, AreNext-push g nodes (done ++ x ∷ []) xs y a.1 (subst (λ (l : List ℕ). IsNext g nodes l y) (sym (append_assoc done (x ∷ []) xs)) n))

-- an element after the front of a list with no repeats isn't in the front
pub not_in_front : (xs : List ℕ) (n i : ℕ) → ((x : ℕ) → tally x xs ≤ 1) → n ≤ i → i < length xs → tally (get_or xs i 0) (take n xs) ≡ 0
not_in_front xs n i once h l =
    let x : ℕ = get_or xs i 0 in
    let split : tally x xs ≡ tally x (take n xs) + tally x (drop n xs) = ap (tally x) (sym (take-append-drop n xs)) ∙ tally-append x (take n xs) (drop n xs) in
    let d : get_or (drop n xs) (i - n) 0 ≡ x = get_or-drop n xs (i - n) 0 ∙ ap (λ (k : ℕ). get_or xs k 0) (omega arith) in
    let k : 0 < tally (get_or (drop n xs) (i - n) 0) (drop n xs) = tally_at (drop n xs) (i - n) (let e : length (drop n xs) ≡ length xs - n = length-drop n xs in omega arith) in
    let k' : 0 < tally x (drop n xs) = subst (λ (v : ℕ). 0 < tally v (drop n xs)) d k in
    let o : tally x xs ≤ 1 = once x in omega arith

pub in_front : (xs : List ℕ) (n i : ℕ) → i < n → i < length xs → 0 < tally (get_or xs i 0) (take n xs)
in_front [] n i h l = absurd (omega arith)
in_front (x ∷ xs) zero i h l = absurd (omega arith)
in_front (x ∷ xs) (suc n) zero h l = rw (same_test x) (omega arith)
in_front (x ∷ xs) (suc n) (suc i) h l = let k : 0 < tally (get_or xs i 0) (take n xs) = in_front xs n i (omega arith) (omega arith) in omega arith

pub front_at : (x : ℕ) (xs : List ℕ) (n : ℕ) → 0 < tally x (take n xs) → (i : ℕ) × (i < n) × (i < length xs) × (get_or xs i 0 ≡ x)
front_at x [] zero h = absurd (omega arith)
front_at x [] (suc n) h = absurd (omega arith)
front_at x (y ∷ xs) zero h = absurd (omega arith)
front_at x (y ∷ xs) (suc n) h = by_test (y == x)
    (λ e. (0, omega arith, omega arith, same_node y x e))
    (λ e. let h' : 0 < tally x (take n xs) = (let q : 0 < 0 + tally x (take n xs) = rw e at h in omega arith) in
    let r : (i : ℕ) × (i < n) × (i < length xs) × (get_or xs i 0 ≡ x) = front_at x xs n h' in
    (suc r.0, (let a : r.0 < n = r.1 in omega arith), (let b : r.0 < length xs = r.2 in omega arith), r.3))

mark_was : (mark mark' : ℕ → ℕ) (x : ℕ) → ((y : ℕ) → 0 < mark y → 0 < mark' y) → mark' x ≡ 0 → mark x ≡ 0
mark_was mark mark' x h z = zero_or (mark x) (λ l. let k : 0 < mark' x = h x l in absurd (omega arith))

pub running_pass : (g : Graph) (nodes old T : List ℕ) (from passed passed' : ℕ) (was place place' mark mark' : ℕ → ℕ) (heap heap' spare spare' : List ℕ) →
    IsRunning g nodes old T from passed was place mark heap spare → IsAtWork g nodes T T [] mark' heap' spare' →
    passed ≤ passed' → passed' ≤ length old → ((x : ℕ) → 0 < mark x → 0 < mark' x) →
    ((i : ℕ) → passed ≤ i → i < passed' → 0 < mark' (get_or old i 0)) → ((x : ℕ) → place' x ≡ place x) →
    IsRunning g nodes old T from passed' was place' mark' heap' spare'
running_pass g nodes old T from passed passed' was place place' mark mark' heap heap' spare spare' r w up to more ps pl = record {
  work = w;
  front = r.front;
  from_listed = r.from_listed;
  from_passed = (let a : from ≤ passed = r.from_passed in omega arith);
  passed_old = to;
  built = r.built;
  closed = r.closed;
  once = r.once;
  inside = r.inside;
  listed_known = λ x l z. r.listed_known x l (mark_was mark mark' x more z);
  touched = λ x u l z. r.touched x u l (mark_was mark mark' x more z);
  are_passed = λ i a b. by_test (ltb' i passed) (λ t. more (get_or old i 0) (r.are_passed i a (ltb-true' i passed t))) (λ t. ps i (ltb-false' i passed t) b);
  placed = λ x l. rw (pl x) (r.placed x l);
  unplaced = λ x l. pl x ∙ r.unplaced x l;
  within = λ x l. elim (r.within x l) [ inl a ↦ inl (omega arith) | inr e ↦ inr (let q : passed ≤ length old = r.passed_old in omega arith) ];
}

-- what is ready and not known waits, and is not passed
pub waits_on : (g : Graph) (nodes old T : List ℕ) (from passed : ℕ) (was place mark0 mark : ℕ → ℕ) (heap spare : List ℕ) (z : ℕ) →
    IsRunning g nodes old T from passed was place mark heap spare → IsOld g nodes old from was mark0 → ((x : ℕ) → 0 < mark0 x → 0 < mark x) →
    IsReady g nodes T z → mark z ≡ 0 →
    (i : ℕ) × (passed ≤ i) × (i < length old) × (get_or old i 0 ≡ z) × IsWaiting g old from z
waits_on g nodes old T from passed was place mark0 mark heap spare z r o more rz mz =
    let un : tally z (take from old) ≡ 0 = zero_or (tally z (take from old)) (λ l.
    let l' : 0 < tally z (take from T) = rw r.front l in let l'' : tally z (take from T) ≤ tally z T = tally-take_le z from T in let u : tally z T ≡ 0 = rz.unlisted in absurd (omega arith)) in
    let fed : missing (take from old) (g.feeders z) ≡ 0 = none_missing (take from old) (g.feeders z)
    (λ u l. r.touched z u rz.unlisted mz l (all_listed u T (g.feeders z) rz.fed l)) in
    let w : IsWaiting g old from z = o.waiting z (mark_was mark0 mark z more mz) (record { node = rz.node; unlisted = un; fed = fed }) in
    let a : (i : ℕ) × (i < length old) × (get_or old i 0 ≡ z) = at_tally z old w.there in
    let i : ℕ = a.0 in
    let l : i < length old = a.1 in
    let e : get_or old i 0 ≡ z = a.2 in
    let low : from ≤ i = not_lt i from (λ h. let k : 0 < tally (get_or old i 0) (take from old) = in_front old from i h l in let k' : 0 < tally z (take from old) = subst (λ (v : ℕ). 0 < tally v (take from old)) e k in absurd (omega arith)) in
    let high : passed ≤ i = not_lt i passed (λ h. let k : 0 < mark (get_or old i 0) = r.are_passed i low h in let k' : 0 < mark z = subst (λ (v : ℕ). 0 < mark v) e k in absurd (omega arith)) in
    (i, high, l, e, w)

pub next_is : (g : Graph) (nodes old T : List ℕ) (from passed : ℕ) (was place mark0 mark : ℕ → ℕ) (heap spare : List ℕ) (y : ℕ) →
    IsRunning g nodes old T from passed was place mark heap spare → IsOld g nodes old from was mark0 → ((x : ℕ) → 0 < mark0 x → 0 < mark x) →
    0 < tally y heap → ((x : ℕ) → 0 < tally x heap → g.rank y ≤ g.rank x) → (passed ≡ length old) ⊎ (place y < passed) → IsNext g nodes T y
next_is g nodes old T from passed was place mark0 mark heap spare y r o more hy least behind =
    let fy : (tally y T ≡ 0) × (mark y ≡ 1) = r.work.free y hy in
    let my : mark y ≡ 1 = fy.1 in
    let nd : 0 < tally y nodes = r.work.inside y (omega arith) in
    let ms : mark y + 0 ≡ missing T (g.feeders y) + 1 = r.work.marks y (omega arith) in
    record {
      ready = record { node = nd; unlisted = fy.0; fed = omega arith };
      least = λ z rz. by_test (mark z == 0)
          (λ t. let mz : mark z ≡ 0 = same_node (mark z) 0 t in
          let q : (i : ℕ) × (passed ≤ i) × (i < length old) × (get_or old i 0 ≡ z) × IsWaiting g old from z = waits_on g nodes old T from passed was place mark0 mark heap spare z r o more rz mz in
          elim behind [
            | inl e ↦ absurd (let a : passed ≤ q.0 = q.1 in let b : q.0 < length old = q.2 in omega arith)
            | inr l ↦ (let wy : place y ≡ was y = r.unplaced y fy.0 in
                let po : passed ≤ length old = r.passed_old in
                let ey : get_or old (was y) 0 ≡ y = o.old_places y nd (omega arith) in
                let low : from ≤ was y = not_lt (was y) from (λ h.
                let k : 0 < tally (get_or old (was y) 0) (take from old) = in_front old from (was y) h (omega arith) in
                let k' : 0 < tally y (take from old) = subst (λ (v : ℕ). 0 < tally v (take from old)) ey k in
                let k2 : 0 < tally y (take from T) = rw r.front k' in
                let k3 : tally y (take from T) ≤ tally y T = tally-take_le y from T in
                let u : tally y T ≡ 0 = fy.0 in absurd (omega arith)) in
                let notyet : tally z (take (was y + 1) old) ≡ 0 = zero_or (tally z (take (was y + 1) old)) (λ h.
                let f : (i : ℕ) × (i < was y + 1) × (i < length old) × (get_or old i 0 ≡ z) = front_at z old (was y + 1) h in
                let f1 : f.0 < was y + 1 = f.1 in
                let f2 : f.0 < length old = f.2 in
                by_test (ltb' f.0 from)
                (λ t2. let k : 0 < tally (get_or old f.0 0) (take from old) = in_front old from f.0 (ltb-true' f.0 from t2) f2 in
                let k' : 0 < tally z (take from old) = subst (λ (v : ℕ). 0 < tally v (take from old)) f.3 k in
                let k2 : 0 < tally z (take from T) = rw r.front k' in
                let k3 : tally z (take from T) ≤ tally z T = tally-take_le z from T in
                let u : tally z T ≡ 0 = rz.unlisted in absurd (omega arith))
                (λ t2. let k : 0 < mark (get_or old f.0 0) = r.are_passed f.0 (ltb-false' f.0 from t2) (omega arith) in
                let k' : 0 < mark z = subst (λ (v : ℕ). 0 < mark v) f.3 k in absurd (omega arith))) in
                let w : g.rank (get_or old (was y) 0) ≤ g.rank z = q.4.later (was y) low (omega arith) notyet in
                subst (λ (v : ℕ). g.rank v ≤ g.rank z) ey w)
          ])
          (λ t. let n : mark z ≡ 0 → ⊥ = other_node (mark z) 0 t in
          let mz : mark z + 0 ≡ missing T (g.feeders z) + 1 = r.work.marks z (omega arith) in
          let fz : missing T (g.feeders z) ≡ 0 = rz.fed in
          least z (r.work.found z rz.unlisted (omega arith)));
    }

pub none_next : (g : Graph) (nodes old T : List ℕ) (from passed : ℕ) (was place mark0 mark : ℕ → ℕ) (heap spare : List ℕ) →
    IsRunning g nodes old T from passed was place mark heap spare → IsOld g nodes old from was mark0 → ((x : ℕ) → 0 < mark0 x → 0 < mark x) →
    heap ≡ [] → passed ≡ length old → (z : ℕ) → IsReady g nodes T z → ⊥
none_next g nodes old T from passed was place mark0 mark heap spare r o more eh ep z rz = by_test (mark z == 0)
    (λ t. let q : (i : ℕ) × (passed ≤ i) × (i < length old) × (get_or old i 0 ≡ z) × IsWaiting g old from z = waits_on g nodes old T from passed was place mark0 mark heap spare z r o more rz (same_node (mark z) 0 t) in
    let a : passed ≤ q.0 = q.1 in let b : q.0 < length old = q.2 in absurd (omega arith))
    (λ t. let n : mark z ≡ 0 → ⊥ = other_node (mark z) 0 t in
    let mz : mark z + 0 ≡ missing T (g.feeders z) + 1 = r.work.marks z (omega arith) in
    let fz : missing T (g.feeders z) ≡ 0 = rz.fed in
    let h : 0 < tally z heap = r.work.found z rz.unlisted (omega arith) in
    let h' : 0 < tally z [] = subst (λ (l : List ℕ). 0 < tally z l) eh h in absurd (omega arith))

pub going : (g : Graph) (nodes old T : List ℕ) (from passed : ℕ) (was place mark : ℕ → ℕ) (heap spare : List ℕ) (y : ℕ) →
    IsRunning g nodes old T from passed was place mark heap spare → 0 < tally y heap → IsGoing g T y
going g nodes old T from passed was place mark heap spare y r hy =
    let fy : (tally y T ≡ 0) × (mark y ≡ 1) = r.work.free y hy in
    let my : mark y ≡ 1 = fy.1 in
    let ms : mark y + 0 ≡ missing T (g.feeders y) + 1 = r.work.marks y (omega arith) in
    record { unlisted = fy.0; fed = omega arith; closed = r.closed }

pub pushed_cases : {P : Type 0} (x y : ℕ) (T : List ℕ) → 0 < tally x (T ++ y ∷ []) → (0 < tally x T → (y ≡ x → ⊥) → P) → (y ≡ x → P) → P
pushed_cases x y T h f k = by_test (y == x)
    (λ t. k (same_node y x t))
    (λ t. let n : y ≡ x → ⊥ = other_node y x t in f (rw (← tally-push_other x y T n) h) n)

pub running_put : (g : Graph) (nodes old T : List ℕ) (from passed : ℕ) (was place place' mark mark' : ℕ → ℕ) (heap heap' spare spare' : List ℕ) (y : ℕ) →
    IsRunning g nodes old T from passed was place mark heap spare → IsNext g nodes T y → 0 < mark y →
    IsAtWork g nodes (T ++ y ∷ []) (T ++ y ∷ []) [] mark' heap' spare' →
    ((x : ℕ) → 0 < mark x → 0 < mark' x) → ((x : ℕ) → mark' x ≡ 0 → tally y (g.feeders x) ≡ 0) →
    ((x : ℕ) → place' x ≡ put place y (length T) x) → (passed ≡ length old) ⊎ (place y < passed) →
    IsRunning g nodes old (T ++ y ∷ []) from passed was place' mark' heap' spare'
running_put g nodes old T from passed was place place' mark mark' heap heap' spare spare' y r n my w more touch pl behind =
    let un : tally y T ≡ 0 = n.ready.unlisted in
    let len : length (T ++ y ∷ []) ≡ length T + 1 = length-append T (y ∷ []) in
    let other : (x : ℕ) → (y ≡ x → ⊥) → place' x ≡ place x = λ x ne. pl x ∙ put_other place y (length T) x ne in
    let not_y : (x : ℕ) → tally x (T ++ y ∷ []) ≡ 0 → y ≡ x → ⊥ = λ x z e. let p : tally y (T ++ y ∷ []) ≡ tally y T + 1 = tally-push_same y T in
    let z' : tally y (T ++ y ∷ []) ≡ 0 = subst (λ (v : ℕ). tally v (T ++ y ∷ []) ≡ 0) (sym e) z in absurd (omega arith) in
    let not_T : (x : ℕ) → tally x (T ++ y ∷ []) ≡ 0 → tally x T ≡ 0 = λ x z. let p : tally x T ≤ tally x (T ++ y ∷ []) = tally-push_le x y T in omega arith in
    let fl : from ≤ length T = r.from_listed in
    record {
      work = w;
      front = take-append-le from T (y ∷ []) fl ∙ r.front;
      from_listed = omega arith;
      from_passed = r.from_passed;
      passed_old = r.passed_old;
      built = AreNext-push g nodes [] T y r.built n;
      closed = λ x l. pushed_cases x y T l
          (λ k ne. let m : missing (T ++ y ∷ []) (g.feeders x) ≤ missing T (g.feeders x) = missing_le T (T ++ y ∷ []) (g.feeders x) (λ u _ a. let p : tally u T ≤ tally u (T ++ y ∷ []) = tally-push_le u y T in omega arith) in
          let c : missing T (g.feeders x) ≡ 0 = r.closed x k in omega arith)
          (λ e. let m : missing (T ++ y ∷ []) (g.feeders y) ≤ missing T (g.feeders y) = missing_le T (T ++ y ∷ []) (g.feeders y) (λ u _ a. let p : tally u T ≤ tally u (T ++ y ∷ []) = tally-push_le u y T in omega arith) in
          let c : missing T (g.feeders y) ≡ 0 = n.ready.fed in subst (λ (v : ℕ). missing (T ++ y ∷ []) (g.feeders v) ≡ 0) e (omega arith));
      once = λ x. by_test (y == x)
          (λ t. let s : y ≡ x = same_node y x t in subst (λ (v : ℕ). tally v (T ++ y ∷ []) ≤ 1) s (rw (tally-push_same y T, un) (omega arith)))
          (λ t. rw (tally-push_other x y T (other_node y x t)) (r.once x));
      inside = λ x l. pushed_cases x y T l (λ k _. r.inside x k) (λ e. subst (λ (v : ℕ). 0 < tally v nodes) e n.ready.node);
      listed_known = λ x l z. pushed_cases x y T l (λ k _. r.listed_known x k (mark_was mark mark' x more z))
          (λ e. let m : 0 < mark' y = more y my in let z' : mark' y ≡ 0 = subst (λ (v : ℕ). mark' v ≡ 0) (sym e) z in absurd (omega arith));
      touched = λ x u l z fu tu. pushed_cases u y T tu
          (λ k _. r.touched x u (not_T x l) (mark_was mark mark' x more z) fu k)
          (λ e. let t : tally y (g.feeders x) ≡ 0 = touch x z in let fu' : 0 < tally y (g.feeders x) = subst (λ (v : ℕ). 0 < tally v (g.feeders x)) (sym e) fu in absurd (omega arith));
      are_passed = λ i a b. more (get_or old i 0) (r.are_passed i a b);
      placed = λ x l. pushed_cases x y T l
          (λ k ne. let p : (place x < length T) × (get_or T (place x) 0 ≡ x) = r.placed x k in
          let p0 : place x < length T = p.0 in
          rw (other x ne) (omega arith, get_or_append_left T (y ∷ []) 0 (place x) p0 ∙ p.1))
          (λ e. let q : place' y ≡ length T = pl y ∙ put_at place y (length T) in
          subst (λ (v : ℕ). (place' v < length (T ++ y ∷ [])) × (get_or (T ++ y ∷ []) (place' v) 0 ≡ v)) e
          (rw q (omega arith, get_or_at T y [] 0 (length T) refl)));
      unplaced = λ x z. other x (not_y x z) ∙ r.unplaced x (not_T x z);
      within = λ x l. pushed_cases x y T l (λ k _. r.within x k)
          (λ e. elim behind [ inl q ↦ inr q | inr q ↦ inl (subst (λ (v : ℕ). was v < passed) e (rw (← r.unplaced y un) q)) ]);
    }

-- while something is left to pass, no more is listed than is passed
pub listed_le : (g : Graph) (nodes old T : List ℕ) (from passed : ℕ) (was place mark0 mark : ℕ → ℕ) (heap spare : List ℕ) →
    IsRunning g nodes old T from passed was place mark heap spare → IsOld g nodes old from was mark0 → passed < length old → length T ≤ passed
listed_le g nodes old T from passed was place mark0 mark heap spare r o h =
    let k : length T ≤ length (take passed old) = length_le T (take passed old) r.once
    (λ x l. elim (r.within x l) [
      | inl a ↦ (let e : get_or old (was x) 0 ≡ x = o.old_places x (r.inside x l) (omega arith) in
          subst (λ (v : ℕ). 0 < tally v (take passed old)) e (in_front old passed (was x) a (omega arith)))
      | inr e ↦ absurd (omega arith)
    ]) in
    let t : length (take passed old) ≡ passed = length-take-le passed old (omega arith) in omega arith

-- what is ahead is unlisted where it isn't known
pub ahead : (g : Graph) (nodes old T : List ℕ) (from passed : ℕ) (was place mark0 mark : ℕ → ℕ) (heap spare : List ℕ) (i : ℕ) →
    IsRunning g nodes old T from passed was place mark heap spare → IsOld g nodes old from was mark0 → passed ≤ i → i < length old →
    mark (get_or old i 0) ≡ 0 → tally (get_or old i 0) T ≡ 0
ahead g nodes old T from passed was place mark0 mark heap spare i r o a b z =
    zero_or (tally (get_or old i 0) T) (λ l. let k : 0 < tally (get_or old i 0) (take from old) = r.listed_known (get_or old i 0) l z in
    let n : tally (get_or old i 0) (take from old) ≡ 0 = not_in_front old from i o.old_once (let f : from ≤ passed = r.from_passed in omega arith) b in absurd (omega arith))

-- in a list with no repeats a node has one place
pub one_place : (xs : List ℕ) (i j : ℕ) → ((x : ℕ) → tally x xs ≤ 1) → i < length xs → j < length xs → get_or xs i 0 ≡ get_or xs j 0 → i ≡ j
one_place xs i j once a b e =
    let no : (k l : ℕ) → k < l → k < length xs → l < length xs → get_or xs k 0 ≡ get_or xs l 0 → ⊥ = λ k l h m n q.
    let z : tally (get_or xs l 0) (take l xs) ≡ 0 = not_in_front xs l l once (omega arith) n in
    let p : 0 < tally (get_or xs k 0) (take l xs) = in_front xs l k h m in
    let p' : 0 < tally (get_or xs l 0) (take l xs) = subst (λ (v : ℕ). 0 < tally v (take l xs)) q p in absurd (omega arith) in
    by_test (ltb' i j) (λ t. absurd (no i j (ltb-true' i j t) a b e))
    (λ t. let g : j ≤ i = ltb-false' i j t in by_test (ltb' j i) (λ u. absurd (no j i (ltb-true' j i u) b a (sym e))) (λ u. let h : i ≤ j = ltb-false' j i u in omega arith))
