-- A wire was cut.
use Rattle.std.proofs.Common.{◌≡◌, ℕ, ◌+◌, ◌<◌, ◌≤◌, ◌==◌, true, false, cond, ◌⊎◌, inl, inr, List, [], ◌∷◌, length, get_or, take, drop, refl, sym, ◌∙◌, ap, subst, arith}
use Rattle.std.proofs.lemmas.List.{length-take-le, take-append-drop, take_all}
use Rattle.pd_order.specs.declared.spots.Spot.{Spot}
use Rattle.pd_order.proofs.Basics.{by_test, zero_or, all_listed, same_test, same_node, other_node, other_test, tally_at, tally-take_le, missing_le, missing_more, missing_one, missing_one_not, missing-append, ltb', ltb-true', ltb-false'}
use Rattle.pd_order.proofs.RunLemmas.{in_front, front_at, not_in_front}
use Rattle.pd_order.proofs.OrderLemmas.{AreAlike, alike_back, front_chain, next_at, ready_alike, front_le, next_once, chain_once}
use Rattle.pd_order.proofs.MendLemmas.{by_rank_alike, met_order, same_met, front_places, listed_short, listed_at}
use Rattle.pd_order.specs.Graph.{Graph, tally, missing, add_wire, IsLawful, IsReady, IsNext, AreNext, IsOrder}
use Rattle.pd_order.specs.Spots.{nodes_of, place_in, nowhere}
use Rattle.pd_order.specs.Listing.{IsListed}
use Rattle.pd_order.specs.Work.{IsOld, IsBeside, IsMet, IsStart, IsFedAfter, IsHigherBetween}

pub add_alike : (g : Graph) (s v : ℕ) → AreAlike (add_wire g s v) g v
add_alike g s v = record { ranks = refl; others = λ y n. let t : (y == v) ≡ false = other_test y v n in rw t refl }

-- what is ready with the wire is ready without
pub ready_without' : (g : Graph) (s v : ℕ) (ns T : List ℕ) (y : ℕ) → IsReady (add_wire g s v) ns T y → IsReady g ns T y
ready_without' g s v ns T y r = record {
  node = r.node;
  unlisted = r.unlisted;
  fed = by_test (y == v)
      (λ t. let f : missing T (s ∷ g.feeders y) ≡ 0 = (let q : missing T (cond (y == v) (s ∷ g.feeders y) (g.feeders y)) ≡ 0 = r.fed in rw t at q) in omega arith)
      (λ t. let q : missing T (cond (y == v) (s ∷ g.feeders y) (g.feeders y)) ≡ 0 = r.fed in rw t at q);
}

ready_without : (g : Graph) (s v : ℕ) (ns T : List ℕ) (y : ℕ) → IsReady (add_wire g s v) ns T y → IsReady g ns T y
ready_without g s v ns T y r = record {
  node = r.node;
  unlisted = r.unlisted;
  fed = by_test (y == v)
      (λ t. let f : missing T (s ∷ g.feeders y) ≡ 0 = (let q : missing T (cond (y == v) (s ∷ g.feeders y) (g.feeders y)) ≡ 0 = r.fed in rw t at q) in omega arith)
      (λ t. let q : missing T (cond (y == v) (s ∷ g.feeders y) (g.feeders y)) ≡ 0 = r.fed in rw t at q);
}

pub ready_with : (g : Graph) (s v : ℕ) (ns T : List ℕ) (y : ℕ) → (y ≡ v → ⊥) → IsReady g ns T y → IsReady (add_wire g s v) ns T y
ready_with g s v ns T y n r = ready_alike g (add_wire g s v) v ns T T y (alike_back (add_wire g s v) g v (add_alike g s v)) (λ u. refl) n r

cut_next : (g : Graph) (s v : ℕ) (ns T : List ℕ) (x : ℕ) → IsNext (add_wire g s v) ns T x → (0 < missing T (g.feeders v)) ⊎ (g.rank x ≤ g.rank v) → IsNext g ns T x
cut_next g s v ns T x n h = record {
  ready = ready_without g s v ns T x n.ready;
  least = λ y r. by_test (y == v)
      (λ t. let e : y ≡ v = same_node y v t in elim h [
        | inl m ↦ absurd (let f : missing T (g.feeders v) ≡ 0 = subst (λ (w : ℕ). missing T (g.feeders w) ≡ 0) e r.fed in omega arith)
        | inr l ↦ subst (λ (w : ℕ). g.rank x ≤ g.rank w) (sym e) l
      ])
      (λ t. n.least y (ready_with g s v ns T y (other_node y v t) r));
}

pub cut_front : (g : Graph) (s v : ℕ) (ns C : List ℕ) (p : ℕ) → AreNext (add_wire g s v) ns [] C → IsStart g C v p → AreNext g ns [] (take p C)
cut_front g s v ns C p a st = front_chain g ns C p st.low (λ k h.
    cut_next g s v ns (take k C) (get_or C k 0) (next_at (add_wire g s v) ns C k a (let l : p ≤ length C = st.low in omega arith)) ((st.before k h).1))

pub not_yet : (g : Graph) (C : List ℕ) (v p : ℕ) → IsStart g C v p → tally v (take p C) ≡ 0
not_yet g C v p st = zero_or (tally v (take p C)) (λ l. let f : (i : ℕ) × (i < p) × (i < length C) × (get_or C i 0 ≡ v) = front_at v C p l in absurd ((st.before f.0 f.1).0 f.3))

-- the fed node is the next where the chains part
pub fed_next : (g : Graph) (s v : ℕ) (ns C stuck : List ℕ) (p : ℕ) → IsOrder (add_wire g s v) ns C stuck → IsStart g C v p → 0 < tally v ns → IsNext g ns (take p C) v
fed_next g s v ns C stuck p o st n = record {
  ready = record { node = n; unlisted = not_yet g C v p st; fed = st.fed };
  least = λ z r. by_test (z == v)
      (λ t. subst (λ (w : ℕ). g.rank v ≤ g.rank w) (sym (same_node z v t)) (le_same (g.rank v)))
      (λ t. let r0 : IsReady (add_wire g s v) ns (take p C) z = ready_with g s v ns (take p C) z (other_node z v t) r in
      by_test (ltb' p (length C))
      (λ u. let l : p < length C = ltb-true' p (length C) u in
      let m : g.rank (get_or C p 0) ≤ g.rank z = (next_at (add_wire g s v) ns C p o.listed l).least z r0 in
      elim (st.behind l) [ inl e ↦ subst (λ (w : ℕ). g.rank w ≤ g.rank z) e m | inr q ↦ omega arith ])
      (λ u. let l : length C ≤ p = ltb-false' p (length C) u in
      absurd (o.ended z (subst (λ (T : List ℕ). IsReady (add_wire g s v) ns T z) (take_all p C l) r0))));
}
  where
    le_same : (n : ℕ) → n ≤ n
    le_same n = omega arith

-- so it is listed once the sets meet
pub cut_fed : (g : Graph) (s v : ℕ) (ns C stuck chain : List ℕ) (p k : ℕ) (was place : ℕ → ℕ) → IsOrder (add_wire g s v) ns C stuck → IsStart g C v p → 0 < tally v ns → IsLawful g ns →
    IsMet g ns C chain p k was place → 0 < tally v (take k C)
cut_fed g s v ns C stuck chain p k was place o st n law m =
    let lk : length (take k chain) ≡ k = length-take-le k chain m.high in
    let lp : p < k = m.low in
    let x : IsNext g ns (take p (take k chain)) (get_or (take k chain) p 0) = next_at g ns (take k chain) p m.begun (omega arith) in
    let x' : IsNext g ns (take p C) (get_or (take k chain) p 0) = subst (λ (T : List ℕ). IsNext g ns T (get_or (take k chain) p 0)) m.front x in
    let e : get_or (take k chain) p 0 ≡ v = next_once g ns (take p C) (get_or (take k chain) p 0) v law x' (fed_next g s v ns C stuck p o st n) in
    let t : 0 < tally (get_or (take k chain) p 0) (take k chain) = tally_at (take k chain) p (omega arith) in
    let t' : 0 < tally v (take k chain) = subst (λ (w : ℕ). 0 < tally w (take k chain)) e t in
    let q : tally v (take k chain) ≡ tally v (take k C) = m.same v in omega arith

-- a node that something unlisted feeds stays stuck, with all else
pub cut_stuck : (g : Graph) (s v : ℕ) (ns C stuck : List ℕ) → IsOrder (add_wire g s v) ns C stuck → 0 < missing C (g.feeders v) → IsOrder g ns C stuck
cut_stuck g s v ns C stuck o h =
    let all : take (length C) C ≡ C = take_all (length C) C (omega arith) in
    record {
      listed = subst (λ (c : List ℕ). AreNext g ns [] c) all (front_chain g ns C (length C) (omega arith) (λ k l.
          cut_next g s v ns (take k C) (get_or C k 0) (next_at (add_wire g s v) ns C k o.listed l)
          (inl (let m : missing C (g.feeders v) ≤ missing (take k C) (g.feeders v) = missing_le (take k C) C (g.feeders v) (λ u _ a. let t : tally u (take k C) ≤ tally u C = tally-take_le u k C in omega arith) in omega arith))));
      ended = λ x r. by_test (x == v)
          (λ t. let f : missing C (g.feeders v) ≡ 0 = subst (λ (w : ℕ). missing C (g.feeders w) ≡ 0) (same_node x v t) r.fed in absurd (omega arith))
          (λ t. o.ended x (ready_with g s v ns C x (other_node x v t) r));
      rest = o.rest;
      by_rank = by_rank_alike (add_wire g s v) g stuck refl o.by_rank;
    }

-- the same, where the places are the same
pub old_same : (g : Graph) (nodes nodes' old : List ℕ) (from : ℕ) (was was' mark : ℕ → ℕ) → IsOld g nodes old from was mark → nodes' ≡ nodes → ((x : ℕ) → was' x ≡ was x) → IsOld g nodes' old from was' mark
old_same g nodes nodes' old from was was' mark o en e = subst (λ (ns : List ℕ). IsOld g ns old from was' mark) (sym en) (record {
  old_places = λ x n l. let l' : was x < length old = rw (← e x) l in rw (e x) (o.old_places x n l');
  old_at = λ i l. e (get_or old i 0) ∙ o.old_at i l;
  old_once = o.old_once;
  old_nodes = o.old_nodes;
  waiting = o.waiting;
})

pub beside_same : (g : Graph) (nodes nodes' old stuck : List ℕ) (was was' mark : ℕ → ℕ) → IsBeside g nodes old stuck was mark → nodes' ≡ nodes → ((x : ℕ) → was' x ≡ was x) → IsBeside g nodes' old stuck was' mark
beside_same g nodes nodes' old stuck was was' mark b en e = subst (λ (ns : List ℕ). IsBeside g ns old stuck was' mark) (sym en) (record {
  held = λ x n q. b.held x n (sym (e x) ∙ q);
  not_held = λ x q. b.not_held x (λ r. q (e x ∙ r));
  held_nodes = b.held_nodes;
  reach = λ x n q. b.reach x n (λ r. q (e x ∙ r));
  range = λ x n. rw (e x) (b.range x n);
  held_by_rank = b.held_by_rank;
})

pub met_same : (g : Graph) (nodes nodes' old chain : List ℕ) (from k : ℕ) (was was' place : ℕ → ℕ) → IsMet g nodes' old chain from k was' place → nodes' ≡ nodes → ((x : ℕ) → was' x ≡ was x) → IsMet g nodes old chain from k was place
met_same g nodes nodes' old chain from k was was' place m en e = subst (λ (ns : List ℕ). IsMet g ns old chain from k was place) en (record {
  low = m.low;
  high = m.high;
  high_old = m.high_old;
  begun = m.begun;
  front = m.front;
  on = m.on;
  same = m.same;
  front_placed = m.front_placed;
  rest_placed = λ x l. m.rest_placed x l ∙ e x;
})

-- one more feeder is looked at
pub fed_more : (C fs : List ℕ) (after after' i u q : ℕ) → ((x : ℕ) → tally x C ≤ 1) → i < length fs → u ≡ get_or fs i 0 → q < length C → get_or C q 0 ≡ u → after ≤ length C → after ≤ after' → q + 1 ≤ after' → (after' ≡ after) ⊎ (after' ≡ q + 1) →
    missing (take after C) (take i fs) ≡ 0 → ((j : ℕ) → j < after → 0 < missing (take j C) (take i fs)) →
    (after' ≤ length C) × (missing (take after' C) (take (i + 1) fs) ≡ 0) × ((j : ℕ) → j < after' → 0 < missing (take j C) (take (i + 1) fs))
fed_more C fs after after' i u q once l eu lq eq la a b cs fed early =
    let more : (j : ℕ) → missing (take j C) (take i fs) + missing (take j C) (u ∷ []) ≡ missing (take j C) (take (i + 1) fs) = λ j. missing_more (take j C) fs i u l eu in
    let m0 : missing (take after' C) (take i fs) ≤ missing (take after C) (take i fs) = missing_le (take after C) (take after' C) (take i fs) (λ w _ h. front_le C after after' w a h) in
    let uin : 0 < tally u (take after' C) = subst (λ (w : ℕ). 0 < tally w (take after' C)) eq (in_front C after' q (omega arith) lq) in
    let m1 : missing (take after' C) (u ∷ []) ≡ 0 = missing_one (take after' C) u uin in
    let mm : missing (take after' C) (take i fs) + missing (take after' C) (u ∷ []) ≡ missing (take after' C) (take (i + 1) fs) = more after' in (
      elim cs [ inl e ↦ omega arith | inr e ↦ omega arith ],
      omega arith,
      λ j h. let mj : missing (take j C) (take i fs) + missing (take j C) (u ∷ []) ≡ missing (take j C) (take (i + 1) fs) = more j in
          by_test (ltb' j after)
          (λ t. let e : 0 < missing (take j C) (take i fs) = early j (ltb-true' j after t) in omega arith)
          (λ t. let g : after ≤ j = ltb-false' j after t in
          elim cs [
            | inl e ↦ absurd (omega arith)
            | inr e ↦ (let z : tally (get_or C q 0) (take j C) ≡ 0 = not_in_front C j q once (omega arith) lq in
                let z' : tally u (take j C) ≡ 0 = subst (λ (w : ℕ). tally w (take j C) ≡ 0) eq z in
                let o : missing (take j C) (u ∷ []) ≡ 1 = missing_one_not (take j C) u (λ k. absurd (omega arith)) in omega arith)
          ]),
    )

pub unfed : (T fs : List ℕ) (i u : ℕ) → i < length fs → u ≡ get_or fs i 0 → tally u T ≡ 0 → 0 < missing T fs
unfed T fs i u l e z =
    let a : missing T (take i fs) + missing T (u ∷ []) ≡ missing T (take (i + 1) fs) = missing_more T fs i u l e in
    let o : missing T (u ∷ []) ≡ 1 = missing_one_not T u (λ k. absurd (omega arith)) in
    let s : missing T fs ≡ missing T (take (i + 1) fs) + missing T (drop (i + 1) fs) = ap (missing T) (sym (take-append-drop (i + 1) fs)) ∙ missing-append T (take (i + 1) fs) (drop (i + 1) fs) in omega arith

-- all that feeds a node stands before `at`, and from `k` on nothing that does
pub fed_at : (g : Graph) (C : List ℕ) (at v k i : ℕ) → ((x : ℕ) → tally x C ≤ 1) → at ≤ length C → k ≤ at → missing (take at C) (g.feeders v) ≡ 0 → ((j : ℕ) → k ≤ j → j < at → tally (get_or C j 0) (g.feeders v) ≡ 0) →
    i + 1 ≡ k → 0 < tally (get_or C i 0) (g.feeders v) → IsFedAfter g C v k
fed_at g C at v k i once la lk fed none e feeds = (
  omega arith,
  (let m : missing (take k C) (g.feeders v) ≤ missing (take at C) (g.feeders v) = missing_le (take at C) (take k C) (g.feeders v)
      (λ u f h. let w : (j : ℕ) × (j < at) × (j < length C) × (get_or C j 0 ≡ u) = front_at u C at h in
      let w1 : w.0 < at = w.1 in
      let w2 : w.0 < length C = w.2 in
      by_test (ltb' w.0 k)
      (λ t. subst (λ (x : ℕ). 0 < tally x (take k C)) w.3 (in_front C k w.0 (ltb-true' w.0 k t) w2))
      (λ t. let z : tally (get_or C w.0 0) (g.feeders v) ≡ 0 = none w.0 (ltb-false' w.0 k t) w1 in
      let z' : tally u (g.feeders v) ≡ 0 = subst (λ (x : ℕ). tally x (g.feeders v) ≡ 0) w.3 z in absurd (omega arith))) in omega arith),
  λ j h. by_test (missing (take j C) (g.feeders v) == 0)
      (λ t. let z : missing (take j C) (g.feeders v) ≡ 0 = same_node (missing (take j C) (g.feeders v)) 0 t in
      let l : 0 < tally (get_or C i 0) (take j C) = all_listed (get_or C i 0) (take j C) (g.feeders v) z feeds in
      let n : tally (get_or C i 0) (take j C) ≡ 0 = not_in_front C j i once (omega arith) (omega arith) in absurd (omega arith))
      (λ t. let n : missing (take j C) (g.feeders v) ≡ 0 → ⊥ = other_node (missing (take j C) (g.feeders v)) 0 t in omega arith),
)

-- where the sink stands in the chain, all that feeds it is before it
pub fed_there : (g : Graph) (s v : ℕ) (C stuck : List ℕ) (spots : List Spot) → IsListed C stuck spots → IsOrder (add_wire g s v) (nodes_of spots) C stuck → 0 < tally v (nodes_of spots) → place_in spots v < length C → missing (take (place_in spots v) C) (g.feeders v) ≡ 0
fed_there g s v C stuck spots k o n l =
    let f : length C < nowhere = listed_short C stuck spots k in
    let inn : 0 < tally v C = listed_at C stuck spots v k n (λ e. absurd (omega arith)) in
    let e : get_or C (place_in spots v) 0 ≡ v = (k.seated.placed v inn).1 in
    let r : IsReady g (nodes_of spots) (take (place_in spots v) C) (get_or C (place_in spots v) 0) = ready_without g s v (nodes_of spots) (take (place_in spots v) C) (get_or C (place_in spots v) 0) ((next_at (add_wire g s v) (nodes_of spots) C (place_in spots v) o.listed l).ready) in
    subst (λ (w : ℕ). missing (take (place_in spots v) C) (g.feeders w) ≡ 0) e r.fed

pub start_is : (g : Graph) (C : List ℕ) (v after from : ℕ) → IsFedAfter g C v after →
    ((k : ℕ) → k < after → get_or C k 0 ≡ v → ⊥) → after ≤ from → from ≤ length C →
    ((k : ℕ) → after ≤ k → k < from → (get_or C k 0 ≡ v → ⊥) × (g.rank (get_or C k 0) < g.rank v)) → (from < length C → (get_or C from 0 ≡ v) ⊎ (g.rank v ≤ g.rank (get_or C from 0))) → IsStart g C v from
start_is g C v after from a nv l h b e = record {
  low = h;
  fed = (let m : missing (take from C) (g.feeders v) ≤ missing (take after C) (g.feeders v) = missing_le (take after C) (take from C) (g.feeders v) (λ w _ q. front_le C after from w l q) in let z : missing (take after C) (g.feeders v) ≡ 0 = a.1 in omega arith);
  before = λ k q. by_test (ltb' k after)
      (λ t. let t' : k < after = ltb-true' k after t in (nv k t', inl (a.2 k t')))
      (λ t. let r : (get_or C k 0 ≡ v → ⊥) × (g.rank (get_or C k 0) < g.rank v) = b k (ltb-false' k after t) q in (r.0, inr (let r1 : g.rank (get_or C k 0) < g.rank v = r.1 in omega arith)));
  behind = e;
}

-- the old chain has the node only once all that feeds it is listed
pub not_before : (g : Graph) (s v : ℕ) (ns C : List ℕ) (k : ℕ) → AreNext (add_wire g s v) ns [] C → k < length C → 0 < missing (take k C) (g.feeders v) → get_or C k 0 ≡ v → ⊥
not_before g s v ns C k a l m e =
    let r : IsReady g ns (take k C) (get_or C k 0) = ready_without g s v ns (take k C) (get_or C k 0) ((next_at (add_wire g s v) ns C k a l).ready) in
    let f : missing (take k C) (g.feeders v) ≡ 0 = subst (λ (w : ℕ). missing (take k C) (g.feeders w) ≡ 0) e r.fed in absurd (omega arith)

-- the fed node stands where it is the next
pub cut_same : (g : Graph) (s v : ℕ) (C stuck : List ℕ) (p : ℕ) (spots : List Spot) → IsListed C stuck spots → IsOrder (add_wire g s v) (nodes_of spots) C stuck → IsStart g C v p → 0 < tally v (nodes_of spots) →
    p < length C → get_or C p 0 ≡ v → IsOrder g (nodes_of spots) C stuck
cut_same g s v C stuck p spots k o st n l e =
    let once : (x : ℕ) → tally x C ≤ 1 = chain_once (add_wire g s v) (nodes_of spots) C o.listed in
    met_order (add_wire g s v) g v C C stuck spots p (p + 1) (place_in spots) (add_alike g s v) k o
    (same_met g (nodes_of spots) C p v (place_in spots) (cut_front g s v (nodes_of spots) C p o.listed st) (fed_next g s v (nodes_of spots) C stuck p o st n) l e (front_places C stuck spots (p + 1) k once (omega arith)))
    (subst (λ (w : ℕ). 0 < tally w (take (p + 1) C)) e (in_front C (p + 1) p (omega arith) l))

-- the source of a wire stands in the chain where the sink does
source_listed : (g : Graph) (s v : ℕ) (ns C : List ℕ) (at : ℕ) → AreNext (add_wire g s v) ns [] C → at < length C → get_or C at 0 ≡ v → 0 < tally s C
source_listed g s v ns C at a l e =
    let f : missing (take at C) ((add_wire g s v).feeders (get_or C at 0)) ≡ 0 = (next_at (add_wire g s v) ns C at a l).ready.fed in
    let f' : missing (take at C) (cond (v == v) (s ∷ g.feeders v) (g.feeders v)) ≡ 0 = subst (λ (w : ℕ). missing (take at C) (cond (w == v) (s ∷ g.feeders w) (g.feeders w)) ≡ 0) e f in
    let t : (v == v) ≡ true = same_test v in
    let f2 : missing (take at C) (s ∷ g.feeders v) ≡ 0 = rw t at f' in
    let h : 0 < tally s (take at C) = all_listed s (take at C) (s ∷ g.feeders v) f2 (let u : (s == s) ≡ true = same_test s in rw u (omega arith)) in
    let m : tally s (take at C) ≤ tally s C = tally-take_le s at C in omega arith

-- where a node of higher rank was listed before the sink and behind the source, another feeder held the sink back
held_at : (g : Graph) (s v : ℕ) (ns C : List ℕ) (was at i : ℕ) → AreNext (add_wire g s v) ns [] C → at < length C → get_or C at 0 ≡ v → get_or C was 0 ≡ s → was < i → i < at → g.rank v < g.rank (get_or C i 0) →
    0 < missing (take i C) (g.feeders v)
held_at g s v ns C was at i a l e es h k r =
    let once : (x : ℕ) → tally x C ≤ 1 = chain_once (add_wire g s v) ns C a in
    let n : IsNext (add_wire g s v) ns (take i C) (get_or C i 0) = next_at (add_wire g s v) ns C i a (omega arith) in
    let there : 0 < tally v ns = subst (λ (w : ℕ). 0 < tally w ns) e ((next_at (add_wire g s v) ns C at a l).ready.node) in
    let un : tally v (take i C) ≡ 0 = subst (λ (w : ℕ). tally w (take i C) ≡ 0) e (not_in_front C i at once (omega arith) l) in
    let si : 0 < tally s (take i C) = subst (λ (w : ℕ). 0 < tally w (take i C)) es (in_front C i was h (omega arith)) in
    by_test (missing (take i C) (g.feeders v) == 0)
    (λ t. let z : missing (take i C) (g.feeders v) ≡ 0 = same_node (missing (take i C) (g.feeders v)) 0 t in
    let o : missing (take i C) (s ∷ []) ≡ 0 = missing_one (take i C) s si in
    let f : missing (take i C) (s ∷ g.feeders v) ≡ 0 = omega arith in
    let u : (v == v) ≡ true = same_test v in
    let f' : missing (take i C) (cond (v == v) (s ∷ g.feeders v) (g.feeders v)) ≡ 0 = rw u f in
    let q : g.rank (get_or C i 0) ≤ g.rank v = n.least v (record { node = there; unlisted = un; fed = f' }) in absurd (omega arith))
    (λ t. let n0 : missing (take i C) (g.feeders v) ≡ 0 → ⊥ = other_node (missing (take i C) (g.feeders v)) 0 t in omega arith)

-- so the sink is the next only where it stands
pub held_start : (g : Graph) (s v : ℕ) (C stuck : List ℕ) (spots : List Spot) (at : ℕ) → IsListed C stuck spots → IsOrder (add_wire g s v) (nodes_of spots) C stuck → at < length C → get_or C at 0 ≡ v →
    IsHigherBetween g C (place_in spots s + 1) at v → IsStart g C v at
held_start g s v C stuck spots at k o l e hb =
    let ns : List ℕ = nodes_of spots in
    let a : AreNext (add_wire g s v) ns [] C = o.listed in
    let once : (x : ℕ) → tally x C ≤ 1 = chain_once (add_wire g s v) ns C a in
    let was : ℕ = place_in spots s in
    let seat : (place_in spots s < length C) × (get_or C (place_in spots s) 0 ≡ s) = k.seated.placed s (source_listed g s v ns C at a l e) in
    let i : ℕ = hb.0 in
    let i0 : was + 1 ≤ i = hb.1 in
    let i1 : i < at = hb.2 in
    let held : 0 < missing (take i C) (g.feeders v) = held_at g s v ns C was at i a l e seat.1 (omega arith) i1 hb.3 in
    let r : IsReady g ns (take at C) (get_or C at 0) = ready_without g s v ns (take at C) (get_or C at 0) ((next_at (add_wire g s v) ns C at a l).ready) in
    let un : tally v (take at C) ≡ 0 = subst (λ (w : ℕ). tally w (take at C) ≡ 0) e (not_in_front C at at once (omega arith) l) in
    record {
      low = omega arith;
      fed = subst (λ (w : ℕ). missing (take at C) (g.feeders w) ≡ 0) e r.fed;
      before = λ j h. (
        λ q. (let p : 0 < tally (get_or C j 0) (take at C) = in_front C at j h (omega arith) in let p' : 0 < tally v (take at C) = subst (λ (w : ℕ). 0 < tally w (take at C)) q p in absurd (omega arith)),
        by_test (ltb' i j)
            (λ t. let ij : i < j = ltb-true' i j t in
            by_test (ltb' (g.rank v) (g.rank (get_or C j 0)))
            (λ u. inl (held_at g s v ns C was at j a l e seat.1 (omega arith) h (ltb-true' (g.rank v) (g.rank (get_or C j 0)) u)))
            (λ u. inr (ltb-false' (g.rank v) (g.rank (get_or C j 0)) u)))
            (λ t. let ji : j ≤ i = ltb-false' i j t in
            let m : missing (take i C) (g.feeders v) ≤ missing (take j C) (g.feeders v) = missing_le (take j C) (take i C) (g.feeders v) (λ w _ q. front_le C j i w ji q) in inl (omega arith)),
      );
      behind = λ _. inl e;
    }
