-- One turn of a run: pass on, take the least, list it.
use Rattle.std.proofs.Common.{◌≡◌, ℕ, ◌+◌, ◌<◌, ◌≤◌, ◌==◌, ◌-◌, Bool, cond, ◌⊎◌, inl, inr, List, [], ◌∷◌, ◌++◌, length, get_or, take, drop, refl, sym, ◌∙◌, ap, subst, arith, length-append, max}
use Rattle.std.proofs.lemmas.List.{length-take-le, take-append-drop, get_or-drop, length-drop, drop-append-le, drop-drop, take-take, take_at}
use Rattle.std.specs.Ordering.{ord_max, nat_cmp}
use Rattle.std.proofs.lemmas.Bool.Decides.{nat_tests}
use Rattle.pd_order.proofs.Basics.{ltb', ltb-true', ltb-false', by_test, same_node, same_test, other_node, tally-append, tally-push_same, tally-push_le, length_le, total-append}
use Rattle.pd_order.proofs.WorkLemmas.{popped}
use Rattle.pd_order.proofs.RunLemmas.{running_pass, running_put, next_is, going, listed_le, ahead, pushed_cases}
use Rattle.pd_order.specs.Graph.{Graph, tally, total, IsNext}
use Rattle.pd_order.specs.Heap.{IsHeap}
use Rattle.pd_order.specs.Spots.{put}
use Rattle.pd_order.specs.Work.{IsAtWork, IsGoing, IsRunning, IsOld, IsPassed, IsTraced}

max_first : (a b m : ℕ) → m ≡ ord_max nat_cmp a b → b < a → m ≡ a
max_first a b m e h = grind (arith, nat_tests)

max_second : (a b m : ℕ) → m ≡ ord_max nat_cmp a b → a ≤ b → m ≡ b
max_second a b m e h = grind (arith, nat_tests)

pub max_cases : (a b m : ℕ) → m ≡ ord_max nat_cmp a b → (a ≤ m) × (b ≤ m) × ((m ≡ a) ⊎ (m ≡ b))
max_cases a b m e = by_test (ltb' b a)
    (λ t. let l : b < a = ltb-true' b a t in let q : m ≡ a = max_first a b m e l in (omega arith, omega arith, inl q))
    (λ t. let l : a ≤ b = ltb-false' b a t in let q : m ≡ b = max_second a b m e l in (omega arith, omega arith, inr q))

ord_first : (a b : ℕ) → b < a → ord_max nat_cmp a b ≡ a
ord_first a b h = grind (arith, nat_tests)

ord_second : (a b : ℕ) → a ≤ b → ord_max nat_cmp a b ≡ b
ord_second a b h = grind (arith, nat_tests)

pub max_is : (a b m : ℕ) → m ≡ max a b → m ≡ ord_max nat_cmp a b
max_is a b m e = by_test (ltb' b a)
    (λ t. let l : b < a = ltb-true' b a t in let q : ord_max nat_cmp a b ≡ a = ord_first a b l in omega arith)
    (λ t. let l : a ≤ b = ltb-false' b a t in let q : ord_max nat_cmp a b ≡ b = ord_second a b l in omega arith)

-- behind what is listed the old chain still stands
pub rest_at : (chain old : List ℕ) (k i : ℕ) → drop k chain ≡ drop k old → k ≤ i → i < length old → (i < length chain) × (get_or chain i 0 ≡ get_or old i 0)
rest_at chain old k i e a b =
    let l : length chain - k ≡ length old - k = sym (length-drop k chain) ∙ ap length e ∙ length-drop k old in
    let p : get_or (drop k chain) (i - k) 0 ≡ get_or chain i 0 = get_or-drop k chain (i - k) 0 ∙ ap (λ (n : ℕ). get_or chain n 0) (omega arith) in
    let q : get_or (drop k old) (i - k) 0 ≡ get_or old i 0 = get_or-drop k old (i - k) 0 ∙ ap (λ (n : ℕ). get_or old n 0) (omega arith) in
    (omega arith, sym p ∙ ap (λ (xs : List ℕ). get_or xs (i - k) 0) e ∙ q)

pub chain_nodes : (nodes chain old : List ℕ) (k x : ℕ) → drop k chain ≡ drop k old → ((z : ℕ) → 0 < tally z (take k chain) → 0 < tally z nodes) →
    ((z : ℕ) → 0 < tally z old → 0 < tally z nodes) → 0 < tally x chain → 0 < tally x nodes
chain_nodes nodes chain old k x e a b h =
    let s : tally x chain ≡ tally x (take k chain) + tally x (drop k chain) = ap (tally x) (sym (take-append-drop k chain)) ∙ tally-append x (take k chain) (drop k chain) in
    let d : tally x (drop k chain) ≡ tally x (drop k old) = ap (tally x) e in
    let s2 : tally x old ≡ tally x (take k old) + tally x (drop k old) = ap (tally x) (sym (take-append-drop k old)) ∙ tally-append x (take k old) (drop k old) in
    by_test (tally x (take k chain) == 0)
    (λ t. let z : tally x (take k chain) ≡ 0 = same_node (tally x (take k chain)) 0 t in b x (omega arith))
    (λ t. let n : tally x (take k chain) ≡ 0 → ⊥ = other_node (tally x (take k chain)) 0 t in a x (omega arith))

pub after_pass : (g : Graph) (nodes nodes1 nodes2 old chain view : List ℕ) (listed from passed passed' end : ℕ) (was place place' mark0 mark mark' : ℕ → ℕ) (heap heap' spare spare' : List ℕ) →
    IsRunning g nodes old (take listed chain) from passed was place mark heap spare → IsOld g nodes old from was mark0 → listed ≤ length chain → drop listed chain ≡ drop listed old →
    view ≡ chain → nodes2 ≡ nodes1 → nodes1 ≡ nodes → end ≡ length old →
    IsAtWork g nodes2 (take listed view) (take listed view) [] mark' heap' spare' → (passed ≤ passed') × (passed' ≤ end) →
    ((x : ℕ) → 0 < mark x → 0 < mark' x) → ((i : ℕ) → passed ≤ i → i < passed' → 0 < mark' (get_or view i 0)) → ((x : ℕ) → place' x ≡ place x) →
    IsRunning g nodes old (take listed chain) from passed' was place' mark' heap' spare'
after_pass g nodes nodes1 nodes2 old chain view listed from passed passed' end was place place' mark0 mark mark' heap heap' spare spare' r o wl rest ev e2 e1 ee w range more ps pl =
    let w1 : IsAtWork g nodes (take listed view) (take listed view) [] mark' heap' spare' = subst (λ (ns : List ℕ). IsAtWork g ns (take listed view) (take listed view) [] mark' heap' spare') (e2 ∙ e1) w in
    let w2 : IsAtWork g nodes (take listed chain) (take listed chain) [] mark' heap' spare' = subst (λ (v : List ℕ). IsAtWork g nodes (take listed v) (take listed v) [] mark' heap' spare') ev w1 in
    let up : passed' ≤ end = range.1 in
    running_pass g nodes old (take listed chain) from passed passed' was place place' mark mark' heap heap' spare spare' r w2 range.0 (omega arith) more
    (λ i a b. let lt : passed < length old = omega arith in
    let le : length (take listed chain) ≤ passed = listed_le g nodes old (take listed chain) from passed was place mark0 mark heap spare r o lt in
    let el : length (take listed chain) ≡ listed = length-take-le listed chain wl in
    let q : (i < length chain) × (get_or chain i 0 ≡ get_or old i 0) = rest_at chain old listed i rest (omega arith) (omega arith) in
    subst (λ (x : ℕ). 0 < mark' x) (ap (λ (v : List ℕ). get_or v i 0) ev ∙ q.1) (ps i a b))
    pl

pub ahead_view : (g : Graph) (nodes old chain view : List ℕ) (listed from passed i : ℕ) (was place mark0 mark : ℕ → ℕ) (heap spare : List ℕ) →
    IsRunning g nodes old (take listed chain) from passed was place mark heap spare → IsOld g nodes old from was mark0 → listed ≤ length chain → drop listed chain ≡ drop listed old →
    view ≡ chain → passed ≤ i → i < length old →
    (i < length view) × (mark (get_or view i 0) ≡ 0 → (tally (get_or view i 0) (take listed view) ≡ 0) × (place (get_or view i 0) ≡ i))
ahead_view g nodes old chain view listed from passed i was place mark0 mark heap spare r o wl rest ev a b =
    let le : length (take listed chain) ≤ passed = listed_le g nodes old (take listed chain) from passed was place mark0 mark heap spare r o (omega arith) in
    let el : length (take listed chain) ≡ listed = length-take-le listed chain wl in
    let q : (i < length chain) × (get_or chain i 0 ≡ get_or old i 0) = rest_at chain old listed i rest (omega arith) b in
    let h : mark (get_or chain i 0) ≡ 0 → (tally (get_or chain i 0) (take listed chain) ≡ 0) × (place (get_or chain i 0) ≡ i) =
    subst (λ (x : ℕ). mark x ≡ 0 → (tally x (take listed chain) ≡ 0) × (place x ≡ i)) (sym q.1) (λ z. let u : tally (get_or old i 0) (take listed chain) ≡ 0 = ahead g nodes old (take listed chain) from passed was place mark0 mark heap spare i r o a b z in (u, r.unplaced (get_or old i 0) u ∙ o.old_at i b)) in
    subst (λ (v : List ℕ). (i < length v) × (mark (get_or v i 0) ≡ 0 → (tally (get_or v i 0) (take listed v) ≡ 0) × (place (get_or v i 0) ≡ i))) (sym ev) (q.0, h)

-- what is known of the node that a turn takes from the heap
pub record IsTaken (g : Graph) (heap heap' : List ℕ) (place : ℕ → ℕ) (passed end y : ℕ) : Type 0 where
  pub less : (x : ℕ) → tally x heap ≡ tally x (y ∷ heap')
  pub first : (y ≡ get_or heap 0 0) × ((x : ℕ) → 0 < tally x heap → g.rank y ≤ g.rank x)
  pub behind : (passed ≡ end) ⊎ ((0 < length heap) × (place (get_or heap 0 0) < passed))

in_heap : (g : Graph) (heap heap' : List ℕ) (place : ℕ → ℕ) (passed end y : ℕ) → IsTaken g heap heap' place passed end y → 0 < tally y heap
in_heap g heap heap' place passed end y t = let e : tally y heap ≡ cond (y == y) 1 0 + tally y heap' = t.less y in
    let e' : tally y heap ≡ 1 + tally y heap' = subst (λ (b : Bool). tally y heap ≡ cond b 1 0 + tally y heap') (same_test y) e in omega arith

is_behind : (g : Graph) (heap heap' old : List ℕ) (place : ℕ → ℕ) (passed end y : ℕ) → IsTaken g heap heap' place passed end y → end ≡ length old → (passed ≡ length old) ⊎ (place y < passed)
is_behind g heap heap' old place passed end y t ee = elim t.behind [ inl e ↦ inl (e ∙ ee) | inr b ↦ inr (subst (λ (v : ℕ). place v < passed) (sym t.first.0) b.1) ]

pub taken_next : (g : Graph) (nodes old T : List ℕ) (from passed end : ℕ) (was place mark0 mark : ℕ → ℕ) (heap heap' spare : List ℕ) (y : ℕ) →
    IsRunning g nodes old T from passed was place mark heap spare → IsOld g nodes old from was mark0 → ((x : ℕ) → 0 < mark0 x → 0 < mark x) →
    IsTaken g heap heap' place passed end y → end ≡ length old → IsNext g nodes T y
taken_next g nodes old T from passed end was place mark0 mark heap heap' spare y r o more t ee =
    next_is g nodes old T from passed was place mark0 mark heap spare y r o more (in_heap g heap heap' place passed end y t) t.first.1 (is_behind g heap heap' old place passed end y t ee)

pub taken_work : (g : Graph) (nodes old T : List ℕ) (from passed end : ℕ) (was place mark : ℕ → ℕ) (heap heap' spare : List ℕ) (y : ℕ) →
    IsRunning g nodes old T from passed was place mark heap spare → IsTaken g heap heap' place passed end y → IsHeap g.rank heap' →
    IsAtWork g nodes T (T ++ y ∷ []) [] mark heap' spare
taken_work g nodes old T from passed end was place mark heap heap' spare y r t hh = popped g nodes T mark heap heap' spare [] y r.work t.less hh

pub taken_going : (g : Graph) (nodes old T : List ℕ) (from passed end : ℕ) (was place mark : ℕ → ℕ) (heap heap' spare : List ℕ) (y : ℕ) →
    IsRunning g nodes old T from passed was place mark heap spare → IsTaken g heap heap' place passed end y → IsGoing g T y
taken_going g nodes old T from passed end was place mark heap heap' spare y r t = going g nodes old T from passed was place mark heap spare y r (in_heap g heap heap' place passed end y t)

-- there is a place for it
pub taken_room : (g : Graph) (nodes old T : List ℕ) (from passed end : ℕ) (was place mark : ℕ → ℕ) (heap heap' spare : List ℕ) (y : ℕ) →
    IsRunning g nodes old T from passed was place mark heap spare → IsTaken g heap heap' place passed end y → length T < length nodes
taken_room g nodes old T from passed end was place mark heap heap' spare y r t =
    let f : (tally y T ≡ 0) × (mark y ≡ 1) = r.work.free y (in_heap g heap heap' place passed end y t) in
    let m : mark y ≡ 1 = f.1 in
    let k : length (T ++ y ∷ []) ≤ length nodes = length_le (T ++ y ∷ []) nodes
    (λ x. by_test (y == x)
    (λ q. let s : y ≡ x = same_node y x q in let p : tally y (T ++ y ∷ []) ≡ tally y T + 1 = tally-push_same y T in let u : tally y T ≡ 0 = f.0 in
    subst (λ (v : ℕ). tally v (T ++ y ∷ []) ≤ 1) s (omega arith))
    (λ q. let p : tally x (T ++ y ∷ []) ≡ tally x T + tally x (y ∷ []) = tally-append x T (y ∷ []) in let o : tally x T ≤ 1 = r.once x in
    let z : tally x (y ∷ []) ≡ 0 = rw q refl in omega arith))
    (λ x l. pushed_cases x y T l (λ a _. r.inside x a) (λ e. subst (λ (v : ℕ). 0 < tally v nodes) e (r.work.inside y (omega arith)))) in
    let e : length (T ++ y ∷ []) ≡ length T + 1 = length-append T (y ∷ []) in omega arith

-- what listing it comes to
pub record IsPut (g : Graph) (nodes front : List ℕ) (place place' mark mark' : ℕ → ℕ) (heap spare : List ℕ) (count y : ℕ) : Type 0 where
  pub known : (x : ℕ) → 0 < mark x → 0 < mark' x
  pub touched : (x : ℕ) → mark' x ≡ 0 → tally y (g.feeders x) ≡ 0
  pub places : (x : ℕ) → place' x ≡ put place y count x
  pub work : IsAtWork g nodes front front [] mark' heap spare

pub taken_running : (g : Graph) (nodes nodes1 nodes2 nodes3 old T front : List ℕ) (from passed end listed : ℕ) (was place place' mark0 mark mark' : ℕ → ℕ) (heap heap' heap2 spare spare2 : List ℕ) (y : ℕ) →
    IsRunning g nodes old T from passed was place mark heap spare → IsOld g nodes old from was mark0 → ((x : ℕ) → 0 < mark0 x → 0 < mark x) →
    IsTaken g heap heap' place passed end y → end ≡ length old → IsPut g nodes3 front place place' mark mark' heap2 spare2 listed y →
    nodes3 ≡ nodes2 → nodes2 ≡ nodes1 → nodes1 ≡ nodes → front ≡ T ++ y ∷ [] → listed ≡ length T →
    IsRunning g nodes old front from passed was place' mark' heap2 spare2
taken_running g nodes nodes1 nodes2 nodes3 old T front from passed end listed was place place' mark0 mark mark' heap heap' heap2 spare spare2 y r o more t ee p e3 e2 e1 ef el =
    let n : IsNext g nodes T y = taken_next g nodes old T from passed end was place mark0 mark heap heap' spare y r o more t ee in
    let f : (tally y T ≡ 0) × (mark y ≡ 1) = r.work.free y (in_heap g heap heap' place passed end y t) in
    let m : mark y ≡ 1 = f.1 in
    let w1 : IsAtWork g nodes front front [] mark' heap2 spare2 = subst (λ (ns : List ℕ). IsAtWork g ns front front [] mark' heap2 spare2) (e3 ∙ e2 ∙ e1) p.work in
    let w2 : IsAtWork g nodes (T ++ y ∷ []) (T ++ y ∷ []) [] mark' heap2 spare2 = subst (λ (v : List ℕ). IsAtWork g nodes v v [] mark' heap2 spare2) ef w1 in
    let q : IsRunning g nodes old (T ++ y ∷ []) from passed was place' mark' heap2 spare2 =
    running_put g nodes old T from passed was place place' mark mark' heap heap2 spare spare2 y r n (omega arith) w2 p.known p.touched
    (λ x. subst (λ (k : ℕ). place' x ≡ put place y k x) el (p.places x)) (is_behind g heap heap' old place passed end y t ee) in
    subst (λ (v : List ℕ). IsRunning g nodes old v from passed was place' mark' heap2 spare2) (sym ef) q

-- how far the old places of what is listed go
pub taken_far : (g : Graph) (nodes old T front : List ℕ) (from passed end far far' at : ℕ) (was place mark : ℕ → ℕ) (heap heap' spare : List ℕ) (y : ℕ) →
    IsRunning g nodes old T from passed was place mark heap spare → IsTaken g heap heap' place passed end y → front ≡ T ++ y ∷ [] →
    ((x : ℕ) → 0 < tally x T → was x < far) → at ≡ place y → far ≤ far' → at + 1 ≤ far' → (x : ℕ) → 0 < tally x front → was x < far'
taken_far g nodes old T front from passed end far far' at was place mark heap heap' spare y r t ef h ea a b x l =
    let f : (tally y T ≡ 0) × (mark y ≡ 1) = r.work.free y (in_heap g heap heap' place passed end y t) in
    let l' : 0 < tally x (T ++ y ∷ []) = subst (λ (v : List ℕ). 0 < tally x v) ef l in
    pushed_cases x y T l'
    (λ k _. let q : was x < far = h x k in omega arith)
    (λ e. let q : place y ≡ was y = r.unplaced y f.0 in subst (λ (v : ℕ). was v < far') e (omega arith))

pub total_put : (f : ℕ → ℕ) (T front : List ℕ) (from y : ℕ) → from ≤ length T → front ≡ T ++ y ∷ [] → total f (drop from front) ≡ total f (drop from T) + f y
total_put f T front from y h e =
    let a : total f (drop from front) ≡ total f (drop from T ++ y ∷ []) = ap (λ (v : List ℕ). total f (drop from v)) e ∙ ap (total f) (drop-append-le from T (y ∷ []) h) in
    let b : total f (drop from T ++ y ∷ []) ≡ total f (drop from T) + (f y + 0) = total-append f (drop from T) (y ∷ []) in omega arith

pub drop_more_same : (n : ℕ) (xs ys : List ℕ) → drop n xs ≡ drop n ys → drop (n + 1) xs ≡ drop (n + 1) ys
drop_more_same n xs ys e = sym (drop-drop 1 n xs) ∙ ap (drop 1) e ∙ drop-drop 1 n ys

-- the trace after a pass
pub traced_pass : (g : Graph) (old chain view T : List ℕ) (listed from passed passed' far : ℕ) (was mark0 mark mark' : ℕ → ℕ) →
    IsTraced g old T from passed far was mark0 mark → drop listed chain ≡ drop listed old → view ≡ chain → (listed ≤ passed) ⊎ (passed' ≡ passed) → from ≤ passed → passed ≤ passed' → passed' ≤ length old →
    ((x : ℕ) → 0 < mark' x → (0 < mark x) ⊎ IsPassed view passed passed' x) → IsTraced g old T from passed' far was mark0 mark'
traced_pass g old chain view T listed from passed passed' far was mark0 mark mark' t rest ev le fp up to only = record {
  attained = t.attained;
  why = λ x h. elim (only x h) [
    | inl k ↦ elim (t.why x k) [ inl a ↦ inl a | inr b ↦ elim b [ inl p ↦ inr (inl (p.0, p.1, (let q : p.0 < passed = p.2 in omega arith), p.3)) | inr f ↦ inr (inr f) ] ]
    | inr p ↦ (let p1 : passed ≤ p.0 = p.1 in let p2 : p.0 < passed' = p.2 in
        elim le [
          | inl l ↦ (let q : (p.0 < length chain) × (get_or chain p.0 0 ≡ get_or old p.0 0) = rest_at chain old listed p.0 rest (omega arith) (omega arith) in
              inr (inl (p.0, omega arith, p2, sym q.1 ∙ ap (λ (v : List ℕ). get_or v p.0 0) (sym ev) ∙ p.3)))
          | inr e ↦ absurd (omega arith)
        ])
  ];
}

drop_has : (T : List ℕ) (from y : ℕ) → from ≤ length T → 0 < tally y (drop from (T ++ y ∷ []))
drop_has T from y h = rw (drop-append-le from T (y ∷ []) h, tally-append y (drop from T) (y ∷ []), same_test y) (omega arith)

drop_still : (T : List ℕ) (from y u : ℕ) → from ≤ length T → 0 < tally u (drop from T) → 0 < tally u (drop from (T ++ y ∷ []))
drop_still T from y u h k = rw (drop-append-le from T (y ∷ []) h, tally-append u (drop from T) (y ∷ [])) (omega arith)

-- the trace after a node was listed
pub traced_put : (g : Graph) (old T front : List ℕ) (from passed far far' y at : ℕ) (was mark0 mark mark' : ℕ → ℕ) →
    IsTraced g old T from passed far was mark0 mark → front ≡ T ++ y ∷ [] → from ≤ length T → at ≡ was y → far' ≡ ord_max nat_cmp far (at + 1) →
    ((x : ℕ) → 0 < mark' x → (0 < mark x) ⊎ (0 < tally y (g.feeders x))) → IsTraced g old front from passed far' was mark0 mark'
traced_put g old T front from passed far far' y at was mark0 mark mark' t ef fl ea em only = subst (λ (l : List ℕ). IsTraced g old l from passed far' was mark0 mark') (sym ef) (record {
  attained = elim ((max_cases far (at + 1) far' em).2) [
    | inl e ↦ elim t.attained [
      | inl a ↦ inl (e ∙ a)
      | inr w ↦ inr (w.0, (let k : 0 < tally w.0 T = w.1 in let p : tally w.0 T ≤ tally w.0 (T ++ y ∷ []) = tally-push_le w.0 y T in omega arith), w.2 ∙ sym e)
    ]
    | inr e ↦ inr (y, (let p : tally y (T ++ y ∷ []) ≡ tally y T + 1 = tally-push_same y T in omega arith), omega arith)
  ];
  why = λ x h. elim (only x h) [
    | inl k ↦ elim (t.why x k) [ inl a ↦ inl a | inr b ↦ elim b [ inl p ↦ inr (inl p) | inr f ↦ inr (inr (f.0, drop_still T from y f.0 fl f.1, f.2)) ] ]
    | inr f ↦ inr (inr (y, drop_has T from y fl, f))
  ];
})

-- how far the places of the taken node go
pub taken_passed : (g : Graph) (heap heap' : List ℕ) (place : ℕ → ℕ) (passed passed' end y far far' at : ℕ) → IsTaken g heap heap' place passed' end y →
    (passed' ≡ passed) ⊎ (0 < length heap → passed' ≤ place (get_or heap 0 0) + 1) → passed ≤ far → far' ≡ ord_max nat_cmp far (at + 1) → at ≡ place y → passed' ≤ far'
taken_passed g heap heap' place passed passed' end y far far' at t adv pf em ea =
    let m : (far ≤ far') × (at + 1 ≤ far') × ((far' ≡ far) ⊎ (far' ≡ at + 1)) = max_cases far (at + 1) far' em in
    let m0 : far ≤ far' = m.0 in let m1 : at + 1 ≤ far' = m.1 in
    elim adv [
      | inl e ↦ omega arith
      | inr h ↦ (let l : 0 < length heap = not_none heap y (in_heap g heap heap' place passed' end y t) in
          let q : passed' ≤ place (get_or heap 0 0) + 1 = h l in
          let e : place y ≡ place (get_or heap 0 0) = ap place t.first.0 in omega arith)
    ]
  where
    not_none : (xs : List ℕ) (y : ℕ) → 0 < tally y xs → 0 < length xs
    not_none [] y h = absurd (omega arith)
    not_none (x ∷ xs) y h = omega arith

pub taken_was : (g : Graph) (nodes old T : List ℕ) (from passed end at : ℕ) (was place mark : ℕ → ℕ) (heap heap' spare : List ℕ) (y : ℕ) →
    IsRunning g nodes old T from passed was place mark heap spare → IsTaken g heap heap' place passed end y → at ≡ place y → at ≡ was y
taken_was g nodes old T from passed end at was place mark heap heap' spare y r t e = e ∙ r.unplaced y ((r.work.free y (in_heap g heap heap' place passed end y t)).0)

-- what stood before the last
pub last_is : (g : Graph) (old T front chain : List ℕ) (from passed far far' listed y : ℕ) (was mark0 mark : ℕ → ℕ) → IsTraced g old T from passed far was mark0 mark → front ≡ T ++ y ∷ [] → front ≡ take (listed + 1) chain → length T ≡ listed → from ≤ listed →
    ((listed ≡ from) × (far ≡ from)) ⊎ (listed < far) → far ≤ far' → far' ≤ listed + 1 → (listed + 1 ≡ from + 1) ⊎ ((x : ℕ) × (0 < tally x (take (listed + 1 - 1) chain)) × (was x + 1 ≡ listed + 1))
last_is g old T front chain from passed far far' listed y was mark0 mark t ef ec el fl lf a b = elim lf [
  | inl e ↦ (let q : listed ≡ from = e.0 in inl (omega arith))
  | inr l ↦ elim t.attained [
    | inl e ↦ absurd (omega arith)
    | inr w ↦ (let w2 : was w.0 + 1 ≡ far = w.2 in
        let s : take (listed + 1 - 1) chain ≡ T = ap (λ (n : ℕ). take n chain) (let q : listed + 1 - 1 ≡ listed = omega arith in q) ∙ sym (take-take listed (listed + 1) chain (omega arith)) ∙ ap (take listed) (sym ec ∙ ef) ∙ take_at T (y ∷ []) listed el in
        inr (w.0, rw s w.1, omega arith))
  ]
]

pub listed_or : (g : Graph) (nodes old T : List ℕ) (listed from passed passed' end : ℕ) (was place mark0 mark : ℕ → ℕ) (heap spare : List ℕ) →
    IsRunning g nodes old T from passed was place mark heap spare → IsOld g nodes old from was mark0 → length T ≡ listed → end ≡ length old → (passed ≤ passed') × (passed' ≤ end) → (listed ≤ passed) ⊎ (passed' ≡ passed)
listed_or g nodes old T listed from passed passed' end was place mark0 mark heap spare r o el ee range =
    let a : passed ≤ passed' = range.0 in let b : passed' ≤ end = range.1 in
    by_test (ltb' passed (length old))
    (λ t. let l : length T ≤ passed = listed_le g nodes old T from passed was place mark0 mark heap spare r o (ltb-true' passed (length old) t) in inl (omega arith))
    (λ t. let l : length old ≤ passed = ltb-false' passed (length old) t in inr (omega arith))
