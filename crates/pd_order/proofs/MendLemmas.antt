-- What a fold and a mend begin with, and what they come to.
use Rattle.std.proofs.Common.{◌≡◌, ℕ, ◌+◌, ◌*◌, ◌<◌, ◌≤◌, ◌==◌, ◌-◌, false, cond, inl, inr, List, [], ◌∷◌, ◌++◌, length, get_or, take, drop, refl, sym, ◌∙◌, ap, subst, arith}
use Rattle.std.proofs.lemmas.List.{length-take-le, take-append-drop, get_or-take, take-take, take_all, take_more, length-drop}
use Rattle.std.specs.Prelude.{Option, Some, None, IfNone, IfSome}
use Rattle.pd_order.specs.declared.spots.Spot.{Spot}
use Rattle.pd_order.proofs.Basics.{not_lt, in_rest, by_test, zero_or, same_node, same_test, other_node, other_test, tally-append, tally_at, length_le, total_le, tally-take_le, missing_one, ltb', ltb-true', ltb-false'}
use Rattle.pd_order.proofs.SpotLemmas.{length-nodes, nodes_once}
use Rattle.pd_order.proofs.WorkLemmas.{put_at, put_other, known_more}
use Rattle.pd_order.proofs.RunLemmas.{one_place, AreNext-push, in_front, not_in_front}
use Rattle.pd_order.proofs.TurnLemmas.{rest_at}
use Rattle.pd_order.proofs.OrderLemmas.{AreNext_nodes, ready_nodes, AreAlike, AreNext_split, AreNext_join, AreNext_alike, ended_alike, front_chain, next_at, chain_once, chain_inside, chain_closed, waits_old, ready_alike}
use Rattle.pd_order.specs.Graph.{Graph, tally, total, ends, missing, take_out, cut_wire, AreByRank, IsLeast, IsLawful, IsReady, IsNext, AreNext, IsOrder}
use Rattle.pd_order.specs.Heap.{IsHeap}
use Rattle.pd_order.specs.Spots.{nowhere, nodes_of, place_in, mark_in, put, AreByNode}
use Rattle.pd_order.specs.Work.{IsAtWork, IsRunning, IsOld, IsSeated, IsBeside, IsEnded, IsMet, looks_on, looks_back}
use Rattle.pd_order.specs.Listing.{IsListed}

least_alike : (g0 g : Graph) (x : ℕ) (ys : List ℕ) → g0.rank ≡ g.rank → IsLeast g0 x ys → IsLeast g x ys
least_alike g0 g x [] e l = tt
least_alike g0 g x (y ∷ ys) e l = (subst (λ (r : ℕ → ℕ). r x < r y) e l.0, least_alike g0 g x ys e l.1)

pub by_rank_alike : (g0 g : Graph) (ys : List ℕ) → g0.rank ≡ g.rank → AreByRank g0 ys → AreByRank g ys
by_rank_alike g0 g [] e a = tt
by_rank_alike g0 g (y ∷ ys) e a = (least_alike g0 g y ys e a.0, by_rank_alike g0 g ys e a.1)

-- where nothing is listed and all is known
pub fold_old : (g : Graph) (nodes : List ℕ) (was mark : ℕ → ℕ) → ((x : ℕ) → 0 < tally x nodes → 0 < mark x) → IsOld g nodes [] 0 was mark
fold_old g nodes was mark k = record {
  old_places = λ x n l. absurd (omega arith);
  old_at = λ i l. absurd (omega arith);
  old_once = λ x. omega arith;
  old_nodes = λ x l. absurd (omega arith);
  waiting = λ z m r. absurd (let h : 0 < mark z = k z r.node in omega arith);
}

pub fold_beside : (g : Graph) (nodes : List ℕ) (was mark : ℕ → ℕ) → ((x : ℕ) → 0 < tally x nodes → 0 < mark x) → ((x : ℕ) → 0 < tally x nodes → was x ≡ 4294967294) → length nodes < nowhere → IsBeside g nodes [] [] was mark
fold_beside g nodes was mark k p few = record {
  held = λ x n e. absurd (let h : was x ≡ 4294967294 = p x n in omega arith);
  not_held = λ x _. refl;
  held_nodes = λ x l. absurd (omega arith);
  reach = λ x n _. inr (k x n);
  range = λ x n. inr (let h : was x ≡ 4294967294 = p x n in omega arith);
  held_by_rank = tt;
}

pub fold_running : (g : Graph) (nodes : List ℕ) (was mark : ℕ → ℕ) (heap spare : List ℕ) → IsAtWork g nodes [] [] [] mark heap spare → IsRunning g nodes [] [] 0 0 was was mark heap spare
fold_running g nodes was mark heap spare w = record {
  work = w;
  front = refl;
  from_listed = omega arith;
  from_passed = omega arith;
  passed_old = omega arith;
  built = tt;
  closed = λ x l. absurd (omega arith);
  once = λ x. omega arith;
  inside = λ x l. absurd (omega arith);
  listed_known = λ x l _. absurd (omega arith);
  touched = λ x u _ _ _ l. absurd (omega arith);
  are_passed = λ i _ l. absurd (omega arith);
  placed = λ x l. absurd (omega arith);
  unplaced = λ x _. refl;
  within = λ x l. absurd (omega arith);
}

pub ended_listed : (g : Graph) (nodes chain stuck : List ℕ) (spots : List Spot) → IsEnded g nodes chain stuck (place_in spots) → AreByNode spots → nodes_of spots ≡ nodes → ((x : ℕ) → mark_in spots x ≡ 0) → length spots < nowhere → IsListed chain stuck spots
ended_listed g nodes chain stuck spots e b en m few = record {
  by_node = b;
  seated = subst (λ (ns : List ℕ). IsSeated ns chain (place_in spots)) (sym en) e.seated;
  listed = λ x. subst (λ (ns : List ℕ). tally x stuck + tally x chain ≡ tally x ns) (sym en) (e.order.rest x);
  unmarked = m;
  few = few;
}

-- the facts of a listing
pub listed_at : (chain stuck : List ℕ) (spots : List Spot) (x : ℕ) → IsListed chain stuck spots → 0 < tally x (nodes_of spots) → (place_in spots x ≡ nowhere → ⊥) → 0 < tally x chain
listed_at chain stuck spots x k n e = by_test (tally x chain == 0)
    (λ t. absurd (e (k.seated.away x n (same_node (tally x chain) 0 t))))
    (λ t. let q : tally x chain ≡ 0 → ⊥ = other_node (tally x chain) 0 t in omega arith)

pub chain_short : (g0 : Graph) (nodes chain : List ℕ) → AreNext g0 nodes [] chain → length chain ≤ length nodes
chain_short g0 nodes chain a = length_le chain nodes (chain_once g0 nodes chain a) (λ z l. chain_inside g0 nodes chain z a l)

pub mend_beside : (g0 g : Graph) (chain stuck : List ℕ) (spots : List Spot) (mark : ℕ → ℕ) → IsListed chain stuck spots → IsOrder g0 (nodes_of spots) chain stuck → g0.rank ≡ g.rank →
    ((x : ℕ) → tally x (nodes_of spots) ≤ 1) → IsBeside g (nodes_of spots) chain stuck (place_in spots) mark
mend_beside g0 g chain stuck spots mark k o er once =
    let short : length chain ≤ length (nodes_of spots) = chain_short g0 (nodes_of spots) chain o.listed in
    let ln : length (nodes_of spots) ≡ length spots = length-nodes spots in
    let few : length spots < nowhere = k.few in
    let not_chain : (x : ℕ) → place_in spots x ≡ nowhere → tally x chain ≡ 0 = λ x e. zero_or (tally x chain) (λ l. let p : place_in spots x < length chain = (k.seated.placed x l).0 in absurd (omega arith)) in
    record {
      held = λ x n e. let z : tally x chain ≡ 0 = not_chain x e in let s : tally x stuck + tally x chain ≡ tally x (nodes_of spots) = k.listed x in let u : tally x (nodes_of spots) ≤ 1 = once x in omega arith;
      not_held = λ x e. let s : tally x stuck + tally x chain ≡ tally x (nodes_of spots) = k.listed x in let u : tally x (nodes_of spots) ≤ 1 = once x in
          by_test (tally x (nodes_of spots) == 0)
          (λ t. let z : tally x (nodes_of spots) ≡ 0 = same_node (tally x (nodes_of spots)) 0 t in omega arith)
          (λ t. let n : tally x (nodes_of spots) ≡ 0 → ⊥ = other_node (tally x (nodes_of spots)) 0 t in let c : 0 < tally x chain = listed_at chain stuck spots x k (omega arith) e in omega arith);
      held_nodes = λ x l. let s : tally x stuck + tally x chain ≡ tally x (nodes_of spots) = k.listed x in omega arith;
      reach = λ x n e. inl (listed_at chain stuck spots x k n e);
      range = λ x n. by_test (tally x chain == 0)
          (λ t. let e : place_in spots x ≡ nowhere = k.seated.away x n (same_node (tally x chain) 0 t) in inr (omega arith))
          (λ t. let q : tally x chain ≡ 0 → ⊥ = other_node (tally x chain) 0 t in inl ((k.seated.placed x (omega arith)).0));
      held_by_rank = by_rank_alike g0 g stuck er o.by_rank;
    }

pub mend_old : (g0 g : Graph) (chain stuck : List ℕ) (spots : List Spot) (from : ℕ) (mark : ℕ → ℕ) → IsListed chain stuck spots → IsOrder g0 (nodes_of spots) chain stuck → g0.rank ≡ g.rank → from ≤ length chain →
    ((z : ℕ) → mark z ≡ 0 → IsReady g (nodes_of spots) (take from chain) z → IsReady g0 (nodes_of spots) (take from chain) z) → IsOld g (nodes_of spots) chain from (place_in spots) mark
mend_old g0 g chain stuck spots from mark k o er lf back =
    let short : length chain ≤ length (nodes_of spots) = chain_short g0 (nodes_of spots) chain o.listed in
    let ln : length (nodes_of spots) ≡ length spots = length-nodes spots in
    let few : length spots < nowhere = k.few in
    record {
      old_places = λ x n l. (k.seated.placed x (listed_at chain stuck spots x k n (λ e. absurd (omega arith)))).1;
      old_at = λ i l. let q : (place_in spots (get_or chain i 0) < length chain) × (get_or chain (place_in spots (get_or chain i 0)) 0 ≡ get_or chain i 0) = k.seated.placed (get_or chain i 0) (tally_at chain i l) in
          one_place chain (place_in spots (get_or chain i 0)) i (chain_once g0 (nodes_of spots) chain o.listed) q.0 l q.1;
      old_once = chain_once g0 (nodes_of spots) chain o.listed;
      old_nodes = λ x l. chain_inside g0 (nodes_of spots) chain x o.listed l;
      waiting = λ z m r. waits_old g0 g (nodes_of spots) chain from z er o.listed o.ended lf (back z m r);
    }

-- a run begins with the front that both chains share
pub mend_running : (g0 g : Graph) (chain stuck : List ℕ) (spots : List Spot) (from : ℕ) (place mark : ℕ → ℕ) (heap spare : List ℕ) → IsListed chain stuck spots → AreNext g0 (nodes_of spots) [] chain → from ≤ length chain →
    AreNext g (nodes_of spots) [] (take from chain) → IsAtWork g (nodes_of spots) (take from chain) (take from chain) [] mark heap spare → ((x : ℕ) → place x ≡ place_in spots x) →
    IsRunning g (nodes_of spots) chain (take from chain) from from place place mark heap spare
mend_running g0 g chain stuck spots from place mark heap spare k a lf b w ep =
    let lt : length (take from chain) ≡ from = length-take-le from chain lf in
    let once : (x : ℕ) → tally x chain ≤ 1 = chain_once g0 (nodes_of spots) chain a in
    let at : (x : ℕ) → 0 < tally x (take from chain) → (place x < from) × (get_or chain (place x) 0 ≡ x) = λ x l.
    let l' : 0 < tally x chain = (let m : tally x (take from chain) ≤ tally x chain = tally-take_le x from chain in omega arith) in
    let p : (place_in spots x < length chain) × (get_or chain (place_in spots x) 0 ≡ x) = k.seated.placed x l' in
    rw (ep x) (by_test (ltb' (place_in spots x) from)
    (λ t. (ltb-true' (place_in spots x) from t, p.1))
    (λ t. let z : tally (get_or chain (place_in spots x) 0) (take from chain) ≡ 0 = not_in_front chain from (place_in spots x) once (ltb-false' (place_in spots x) from t) p.0 in
    let z' : tally x (take from chain) ≡ 0 = subst (λ (v : ℕ). tally v (take from chain) ≡ 0) p.1 z in absurd (omega arith))) in
    record {
      work = w;
      front = take-take from from chain (omega arith);
      from_listed = omega arith;
      from_passed = omega arith;
      passed_old = lf;
      built = b;
      closed = λ x l. chain_closed g (nodes_of spots) (take from chain) x b l;
      once = λ x. let m : tally x (take from chain) ≤ tally x chain = tally-take_le x from chain in let o : tally x chain ≤ 1 = once x in omega arith;
      inside = λ x l. chain_inside g0 (nodes_of spots) chain x a (let m : tally x (take from chain) ≤ tally x chain = tally-take_le x from chain in omega arith);
      listed_known = λ x l _. l;
      touched = λ x u _ _ _ l. l;
      are_passed = λ i h l. absurd (omega arith);
      placed = λ x l. let q : (place x < from) × (get_or chain (place x) 0 ≡ x) = at x l in let q0 : place x < from = q.0 in (omega arith, get_or-take from chain (place x) 0 q0 ∙ q.1);
      unplaced = λ x _. refl;
      within = λ x l. inl ((at x l).0);
    }

-- nothing is known yet
pub no_work : (g : Graph) (nodes T : List ℕ) (mark : ℕ → ℕ) → ((x : ℕ) → mark x ≡ 0) → IsAtWork g nodes T T [] mark [] []
no_work g nodes T mark z = record {
  marks = λ x l. absurd (let e : mark x ≡ 0 = z x in omega arith);
  told_known = λ x l. absurd (omega arith);
  free = λ x l. absurd (omega arith);
  found = λ x _ m. absurd (let e : mark x ≡ 0 = z x in omega arith);
  heap_once = λ x. omega arith;
  in_spare = λ x l. absurd (let e : mark x ≡ 0 = z x in omega arith);
  of_spare = λ x l. absurd (omega arith);
  spare_once = λ x. omega arith;
  inside = λ x l. absurd (let e : mark x ≡ 0 = z x in omega arith);
  is_heap = record { up = λ i a b. absurd (omega arith) };
}

-- one node is known alone, and held back by so many wires
pub held_work : (g : Graph) (nodes T : List ℕ) (v held : ℕ) (mk mk' : ℕ → ℕ) (heap heap' spare spare' : List ℕ) → ((x : ℕ) → mk x ≡ 0) → heap ≡ [] → spare ≡ [] → 0 < tally v nodes → tally v T ≡ 0 → missing T (g.feeders v) ≡ held →
    ((x : ℕ) → mk' x ≡ put mk v (held + 1) x) → ((x : ℕ) → tally x heap' ≡ tally x (cond (held == 0) (v ∷ heap) heap)) → spare' ≡ spare ++ v ∷ [] → IsHeap g.rank heap' → IsAtWork g nodes T T [] mk' heap' spare'
held_work g nodes T v held mk mk' heap heap' spare spare' z eh es inn un e marks more sp hh =
    let w : IsAtWork g nodes T T [] mk heap spare = rw (eh, es) (no_work g nodes T mk z) in
    known_more g nodes T T [] mk mk' heap heap' spare spare' v w (z v) inn un
    (subst (λ (n : ℕ). (x : ℕ) → mk' x ≡ put mk v (n + 1) x) (sym e) marks)
    (subst (λ (n : ℕ). (x : ℕ) → tally x heap' ≡ tally x (cond (n == 0) (v ∷ heap) heap)) (sym e) more) sp hh

pub held_known : (v held : ℕ) (mk mk' : ℕ → ℕ) → ((x : ℕ) → mk' x ≡ put mk v (held + 1) x) → 0 < mk' v
held_known v held mk mk' marks = let e : mk' v ≡ held + 1 = marks v ∙ put_at mk v (held + 1) in omega arith

pub held_alone : (v held : ℕ) (mk mk' : ℕ → ℕ) → ((x : ℕ) → mk x ≡ 0) → ((x : ℕ) → mk' x ≡ put mk v (held + 1) x) → (x : ℕ) → 0 < mk' x → v ≡ x
held_alone v held mk mk' z marks x h = by_test (v == x)
    (λ t. same_node v x t)
    (λ t. let e : mk' x ≡ mk x = marks x ∙ put_other mk v (held + 1) x (other_node v x t) in let n : mk x ≡ 0 = z x in absurd (omega arith))

-- the listed sets met, with the fed node among them: the chains go on alike
pub met_order : (g0 g : Graph) (v : ℕ) (chain chain' stuck : List ℕ) (spots : List Spot) (from k : ℕ) (place : ℕ → ℕ) → AreAlike g0 g v → IsListed chain stuck spots → IsOrder g0 (nodes_of spots) chain stuck →
    IsMet g (nodes_of spots) chain chain' from k (place_in spots) place → 0 < tally v (take k chain) → IsOrder g (nodes_of spots) chain' stuck
met_order g0 g v chain chain' stuck spots from k place al l o m fed =
    let split : AreNext g0 (nodes_of spots) [] (take k chain) × AreNext g0 (nodes_of spots) (take k chain) (drop k chain) =
    AreNext_split g0 (nodes_of spots) [] (take k chain) (drop k chain) (subst (λ (c : List ℕ). AreNext g0 (nodes_of spots) [] c) (sym (take-append-drop k chain)) o.listed) in
    let on : AreNext g (nodes_of spots) (take k chain') (drop k chain) = AreNext_alike g0 g v (nodes_of spots) (take k chain) (take k chain') (drop k chain) al (λ u. sym (m.same u)) fed split.1 in
    let all : AreNext g (nodes_of spots) [] (take k chain' ++ drop k chain) = AreNext_join g (nodes_of spots) [] (take k chain') (drop k chain) m.begun on in
    let e : take k chain' ++ drop k chain ≡ chain' = ap (λ (d : List ℕ). take k chain' ++ d) (sym m.on) ∙ take-append-drop k chain' in
    let tallies : (u : ℕ) → tally u chain ≡ tally u chain' = λ u.
    let a : tally u chain ≡ tally u (take k chain) + tally u (drop k chain) = ap (tally u) (sym (take-append-drop k chain)) ∙ tally-append u (take k chain) (drop k chain) in
    let b : tally u chain' ≡ tally u (take k chain') + tally u (drop k chain') = ap (tally u) (sym (take-append-drop k chain')) ∙ tally-append u (take k chain') (drop k chain') in
    let c : tally u (drop k chain') ≡ tally u (drop k chain) = ap (tally u) m.on in let d : tally u (take k chain') ≡ tally u (take k chain) = m.same u in omega arith in
    record {
      listed = subst (λ (c : List ℕ). AreNext g (nodes_of spots) [] c) e all;
      ended = ended_alike g0 g v (nodes_of spots) chain chain' al tallies (let p : tally v (take k chain) ≤ tally v chain = tally-take_le v k chain in omega arith) o.ended;
      rest = λ x. let r : tally x stuck + tally x chain ≡ tally x (nodes_of spots) = o.rest x in let t : tally x chain ≡ tally x chain' = tallies x in omega arith;
      by_rank = by_rank_alike g0 g stuck al.ranks o.by_rank;
    }

pub met_listed : (g g0 : Graph) (chain chain' stuck : List ℕ) (spots spots' : List Spot) (from k : ℕ) → IsListed chain stuck spots → AreNext g0 (nodes_of spots) [] chain → IsMet g (nodes_of spots) chain chain' from k (place_in spots) (place_in spots') → IsOrder g (nodes_of spots) chain' stuck →
    AreByNode spots' → nodes_of spots' ≡ nodes_of spots → ((x : ℕ) → mark_in spots' x ≡ 0) → length spots' < nowhere → IsListed chain' stuck spots'
met_listed g g0 chain chain' stuck spots spots' from k l a m o b en mk few =
    let hk : k ≤ length chain' = m.high in
    let le : length chain' - k ≡ length chain - k = sym (length-drop k chain') ∙ ap length m.on ∙ length-drop k chain in
    let ho : k ≤ length chain = m.high_old in
    let once : (x : ℕ) → tally x chain ≤ 1 = chain_once g0 (nodes_of spots) chain a in
    let parts : (u : ℕ) → tally u chain' ≡ tally u (take k chain') + tally u (drop k chain) = λ u. ap (tally u) (sym (take-append-drop k chain')) ∙ tally-append u (take k chain') (drop k chain') ∙ ap (λ (d : List ℕ). tally u (take k chain') + tally u d) m.on in
    let parts0 : (u : ℕ) → tally u chain ≡ tally u (take k chain) + tally u (drop k chain) = λ u. ap (tally u) (sym (take-append-drop k chain)) ∙ tally-append u (take k chain) (drop k chain) in
    record {
      by_node = b;
      seated = record {
        placed = λ x h. by_test (tally x (take k chain') == 0)
            (λ t. let z : tally x (take k chain') ≡ 0 = same_node (tally x (take k chain')) 0 t in
            let p : place_in spots' x ≡ place_in spots x = m.rest_placed x z in
            let c : 0 < tally x chain = (let q : tally x chain' ≡ tally x (take k chain') + tally x (drop k chain) = parts x in let q0 : tally x chain ≡ tally x (take k chain) + tally x (drop k chain) = parts0 x in omega arith) in
            let s : (place_in spots x < length chain) × (get_or chain (place_in spots x) 0 ≡ x) = l.seated.placed x c in
            let s0 : place_in spots x < length chain = s.0 in
            let ge : k ≤ place_in spots x = not_lt (place_in spots x) k (λ w. let f : 0 < tally (get_or chain (place_in spots x) 0) (take k chain) = in_front chain k (place_in spots x) w s0 in
            let f' : 0 < tally x (take k chain) = subst (λ (v : ℕ). 0 < tally v (take k chain)) s.1 f in let e : tally x (take k chain') ≡ tally x (take k chain) = m.same x in absurd (omega arith)) in
            let r : (place_in spots x < length chain') × (get_or chain' (place_in spots x) 0 ≡ get_or chain (place_in spots x) 0) = rest_at chain' chain k (place_in spots x) m.on ge s0 in
            rw p (r.0, r.1 ∙ s.1))
            (λ t. let n : tally x (take k chain') ≡ 0 → ⊥ = other_node (tally x (take k chain')) 0 t in
            let p : (place_in spots' x < k) × (get_or chain' (place_in spots' x) 0 ≡ x) = m.front_placed x (omega arith) in
            let p0 : place_in spots' x < k = p.0 in (omega arith, p.1));
        away = λ x n z. let q : tally x chain' ≡ tally x (take k chain') + tally x (drop k chain) = parts x in let q0 : tally x chain ≡ tally x (take k chain) + tally x (drop k chain) = parts0 x in
            let e : tally x (take k chain') ≡ tally x (take k chain) = m.same x in
            m.rest_placed x (omega arith) ∙ l.seated.away x (subst (λ (ns : List ℕ). 0 < tally x ns) en n) (omega arith);
      };
      listed = λ x. subst (λ (ns : List ℕ). tally x stuck + tally x chain' ≡ tally x ns) (sym en) (o.rest x);
      unmarked = mk;
      few = few;
    }

-- an added wire
take_out_missing : (T us : List ℕ) (s : ℕ) → missing T (take_out s us) ≤ missing T us
take_out_missing T [] s = omega arith
take_out_missing T (u ∷ us) s = by_test (u == s)
    (λ t. rw t (omega arith))
    (λ t. let k : missing T (take_out s us) ≤ missing T us = take_out_missing T us s in rw t (omega arith))

pub cut_alike : (g : Graph) (s v : ℕ) → AreAlike (cut_wire g s v) g v
cut_alike g s v = record { ranks = refl; others = λ y n. let t : (y == v) ≡ false = other_test y v n in rw t refl }

pub ready_less : (g : Graph) (s v : ℕ) (ns T : List ℕ) (y : ℕ) → IsReady g ns T y → IsReady (cut_wire g s v) ns T y
ready_less g s v ns T y r = record {
  node = r.node;
  unlisted = r.unlisted;
  fed = by_test (y == v) (λ t. let m : missing T (take_out s (g.feeders y)) ≤ missing T (g.feeders y) = take_out_missing T (g.feeders y) s in let f : missing T (g.feeders y) ≡ 0 = r.fed in rw t (omega arith)) (λ t. rw t r.fed);
}

-- before the place of the fed node the chains agree
pub add_front : (g : Graph) (s v : ℕ) (ns C : List ℕ) (p : ℕ) → AreNext (cut_wire g s v) ns [] C → p ≤ length C → tally v (take p C) ≡ 0 → AreNext g ns [] (take p C)
add_front g s v ns C p a l un = front_chain g ns C p l (λ k h.
    let n : IsNext (cut_wire g s v) ns (take k C) (get_or C k 0) = next_at (cut_wire g s v) ns C k a (omega arith) in
    let ne : get_or C k 0 ≡ v → ⊥ = λ e. let f : 0 < tally (get_or C k 0) (take p C) = in_front C p k h (omega arith) in let f' : 0 < tally v (take p C) = subst (λ (w : ℕ). 0 < tally w (take p C)) e f in absurd (omega arith) in
    record {
      ready = ready_alike (cut_wire g s v) g v ns (take k C) (take k C) (get_or C k 0) (cut_alike g s v) (λ u. refl) ne n.ready;
      least = λ y r. n.least y (ready_less g s v ns (take k C) y r);
    })

-- a fed node that was stuck stays so, with all else
pub add_stuck : (g : Graph) (s v : ℕ) (ns C stuck : List ℕ) → IsOrder (cut_wire g s v) ns C stuck → tally v C ≡ 0 → IsOrder g ns C stuck
add_stuck g s v ns C stuck o un =
    let all : take (length C) C ≡ C = take_all (length C) C (omega arith) in
    record {
      listed = subst (λ (c : List ℕ). AreNext g ns [] c) all (add_front g s v ns C (length C) o.listed (omega arith) (rw all un));
      ended = λ x r. o.ended x (ready_less g s v ns C x r);
      rest = o.rest;
      by_rank = by_rank_alike (cut_wire g s v) g stuck refl o.by_rank;
    }

pub outcome : {R P : Type 0} {Q : ℕ → Type 0} (r : Option ℕ) → IfNone r P → IfSome r Q → (P → R) → ((k : ℕ) → r ≡ Some k → Q k → R) → R
outcome None p q f h = f p
outcome (Some k) p q f h = h k refl q

pub on_some : (Q : ℕ → Type 0) (r : Option ℕ) (k : ℕ) → IfSome r Q → r ≡ Some k → Q k
on_some Q r k q e = subst (λ (o : Option ℕ). IfSome o Q) e q

-- after a mend with the fed node among the listed where the sets meet
pub mended_order : (g0 g : Graph) (v : ℕ) (chain chain' stuck stuck' : List ℕ) (spots spots' : List Spot) (from : ℕ) (r : Option ℕ) → AreAlike g0 g v → IsListed chain stuck spots → IsOrder g0 (nodes_of spots) chain stuck →
    IfNone r (IsEnded g (nodes_of spots) chain' stuck' (place_in spots')) → IfSome r (λ k. IsMet g (nodes_of spots) chain chain' from k (place_in spots) (place_in spots')) → IfSome r (λ k. stuck' ≡ stuck) →
    ((k : ℕ) → IsMet g (nodes_of spots) chain chain' from k (place_in spots) (place_in spots') → 0 < tally v (take k chain)) → IsOrder g (nodes_of spots) chain' stuck'
mended_order g0 g v chain chain' stuck stuck' spots spots' from r al l o none some same fed = outcome r none some (λ e. e.order)
    (λ k e m. let s : stuck' ≡ stuck = on_some (λ _. stuck' ≡ stuck) r k same e in rw s (met_order g0 g v chain chain' stuck spots from k (place_in spots') al l o m (fed k m)))

pub mended_listed : (g0 g : Graph) (v : ℕ) (chain chain' stuck stuck' : List ℕ) (spots spots' : List Spot) (from : ℕ) (r : Option ℕ) → AreAlike g0 g v → IsListed chain stuck spots → IsOrder g0 (nodes_of spots) chain stuck →
    IfNone r (IsEnded g (nodes_of spots) chain' stuck' (place_in spots')) → IfSome r (λ k. IsMet g (nodes_of spots) chain chain' from k (place_in spots) (place_in spots')) → IfSome r (λ k. stuck' ≡ stuck) →
    ((k : ℕ) → IsMet g (nodes_of spots) chain chain' from k (place_in spots) (place_in spots') → 0 < tally v (take k chain)) →
    AreByNode spots' → nodes_of spots' ≡ nodes_of spots → ((x : ℕ) → mark_in spots' x ≡ 0) → length spots' < nowhere → IsListed chain' stuck' spots'
mended_listed g0 g v chain chain' stuck stuck' spots spots' from r al l o none some same fed b en mk few = outcome r none some
    (λ e. ended_listed g (nodes_of spots) chain' stuck' spots' e b en mk few)
    (λ k e m. let s : stuck' ≡ stuck = on_some (λ _. stuck' ≡ stuck) r k same e in
    rw s (met_listed g g0 chain chain' stuck spots spots' from k l o.listed m (met_order g0 g v chain chain' stuck spots from k (place_in spots') al l o m (fed k m)) b en mk few))

pub none_same : (r : Option ℕ) (P Q : Type 0) → (P → Q) → IfNone r P → IfNone r Q
none_same None P Q f p = f p
none_same (Some k) P Q f p = p

pub some_same : (r : Option ℕ) (P Q : ℕ → Type 0) → ((k : ℕ) → P k → Q k) → IfSome r P → IfSome r Q
some_same None P Q f p = p
some_same (Some k) P Q f p = f k p

pub order_nodes : (g : Graph) (ns ms chain stuck : List ℕ) → ((x : ℕ) → tally x ns ≡ tally x ms) → IsOrder g ns chain stuck → IsOrder g ms chain stuck
order_nodes g ns ms chain stuck h o = record {
  listed = AreNext_nodes g ns ms [] chain h o.listed;
  ended = λ x r. o.ended x (ready_nodes g ms ns chain x (λ y. sym (h y)) r);
  rest = λ x. o.rest x ∙ h x;
  by_rank = o.by_rank;
}

pub all_looks : (g : Graph) (xs : List ℕ) → total (looks_on g) xs + total (looks_back g) xs ≡ 2 * length xs + total (ends g) xs
all_looks g [] = refl
all_looks g (x ∷ xs) = let k : total (looks_on g) xs + total (looks_back g) xs ≡ 2 * length xs + total (ends g) xs = all_looks g xs in omega arith

pub looks_nodes : (g : Graph) (ns ms : List ℕ) → ((x : ℕ) → tally x ms ≤ 1) → ((x : ℕ) → tally x ns ≡ tally x ms) → total (looks_on g) ns + total (looks_back g) ns ≤ 2 * length ms + total (ends g) ms
looks_nodes g ns ms once h =
    let a : total (looks_on g) ns ≤ total (looks_on g) ms = total_le (looks_on g) ns ms (λ z. rw (h z) (once z)) (λ z l. rw (← h z) l) in
    let b : total (looks_back g) ns ≤ total (looks_back g) ms = total_le (looks_back g) ns ms (λ z. rw (h z) (once z)) (λ z l. rw (← h z) l) in
    let c : total (looks_on g) ms + total (looks_back g) ms ≡ 2 * length ms + total (ends g) ms = all_looks g ms in omega arith

pub listed_short : (chain stuck : List ℕ) (spots : List Spot) → IsListed chain stuck spots → length chain < nowhere
listed_short chain stuck spots k =
    let l : length chain ≤ length (nodes_of spots) = length_le chain (nodes_of spots)
    (λ z. let s : tally z stuck + tally z chain ≡ tally z (nodes_of spots) = k.listed z in let o : tally z (nodes_of spots) ≤ 1 = nodes_once spots z k.by_node in omega arith)
    (λ z h. let s : tally z stuck + tally z chain ≡ tally z (nodes_of spots) = k.listed z in omega arith) in
    let n : length (nodes_of spots) ≡ length spots = length-nodes spots in let f : length spots < nowhere = k.few in omega arith

pub front_places : (C stuck : List ℕ) (spots : List Spot) (p : ℕ) → IsListed C stuck spots → ((x : ℕ) → tally x C ≤ 1) → p ≤ length C → (x : ℕ) → 0 < tally x (take p C) → (place_in spots x < p) × (get_or C (place_in spots x) 0 ≡ x)
front_places C stuck spots p k once lp x l =
    let l' : 0 < tally x C = (let m : tally x (take p C) ≤ tally x C = tally-take_le x p C in omega arith) in
    let q : (place_in spots x < length C) × (get_or C (place_in spots x) 0 ≡ x) = k.seated.placed x l' in
    by_test (ltb' (place_in spots x) p)
    (λ t. (ltb-true' (place_in spots x) p t, q.1))
    (λ t. let z : tally (get_or C (place_in spots x) 0) (take p C) ≡ 0 = not_in_front C p (place_in spots x) once (ltb-false' (place_in spots x) p t) q.0 in
    let z' : tally x (take p C) ≡ 0 = subst (λ (v : ℕ). tally v (take p C) ≡ 0) q.1 z in absurd (omega arith))

-- where the fed node is the next at its place, nothing changes
pub same_met : (g : Graph) (nodes C : List ℕ) (p v : ℕ) (place : ℕ → ℕ) → AreNext g nodes [] (take p C) → IsNext g nodes (take p C) v → p < length C → get_or C p 0 ≡ v →
    ((x : ℕ) → 0 < tally x (take (p + 1) C) → (place x < p + 1) × (get_or C (place x) 0 ≡ x)) → IsMet g nodes C C p (p + 1) place place
same_met g nodes C p v place a n l e pl = record {
  low = omega arith;
  high = omega arith;
  high_old = omega arith;
  begun = subst (λ (T : List ℕ). AreNext g nodes [] T) (sym (take_more C p 0 l)) (AreNext-push g nodes [] (take p C) (get_or C p 0) a (subst (λ (x : ℕ). IsNext g nodes (take p C) x) (sym e) n));
  front = take-take p (p + 1) C (omega arith);
  on = refl;
  same = λ x. refl;
  front_placed = pl;
  rest_placed = λ x _. refl;
}

-- a wire from a node that isn't listed
missing_wire : (T us : List ℕ) (s : ℕ) → 0 < tally s us → tally s T ≡ 0 → missing T us ≡ missing T (take_out s us) + 1
missing_wire T [] s h z = absurd (omega arith)
missing_wire T (u ∷ us) s h z = by_test (u == s)
    (λ t. let zu : tally u T ≡ 0 = subst (λ (w : ℕ). tally w T ≡ 0) (sym (same_node u s t)) z in rw (t, zu) (omega arith))
    (λ t. let k : missing T us ≡ missing T (take_out s us) + 1 = missing_wire T us s (in_rest s u us t h) z in rw t (omega arith))

-- before the added wire nothing held the fed node back at its place
pub added_held : (g : Graph) (s v : ℕ) (C stuck : List ℕ) (spots : List Spot) (p : ℕ) → IsListed C stuck spots → IsOrder (cut_wire g s v) (nodes_of spots) C stuck → p < length C → get_or C p 0 ≡ v → 0 < tally s (g.feeders v) → p ≤ place_in spots s →
    missing (take p C) (g.feeders v) ≡ 1
added_held g s v C stuck spots p k o l e wire h =
    let once : (x : ℕ) → tally x C ≤ 1 = chain_once (cut_wire g s v) (nodes_of spots) C o.listed in
    let un : tally s (take p C) ≡ 0 = zero_or (tally s (take p C)) (λ i. let q : place_in spots s < p = (front_places C stuck spots p k once (omega arith) s i).0 in absurd (omega arith)) in
    let n : IsNext (cut_wire g s v) (nodes_of spots) (take p C) v = subst (λ (w : ℕ). IsNext (cut_wire g s v) (nodes_of spots) (take p C) w) e (next_at (cut_wire g s v) (nodes_of spots) C p o.listed l) in
    let f : missing (take p C) (take_out s (g.feeders v)) ≡ 0 = (let q : missing (take p C) (cond (v == v) (take_out s (g.feeders v)) (g.feeders v)) ≡ 0 = n.ready.fed in rw (same_test v) at q) in
    let w : missing (take p C) (g.feeders v) ≡ missing (take p C) (take_out s (g.feeders v)) + 1 = missing_wire (take p C) (g.feeders v) s wire un in omega arith

missing_with : (T us : List ℕ) (s : ℕ) → 0 < tally s T → missing T (take_out s us) ≡ 0 → missing T us ≡ 0
missing_with T [] s h m = refl
missing_with T (u ∷ us) s h m = by_test (u == s)
    (λ t. let e : u ≡ s = same_node u s t in let m' : missing T us ≡ 0 = rw t at m in let z : missing T (u ∷ []) ≡ 0 = missing_one T u (subst (λ (w : ℕ). 0 < tally w T) (sym e) h) in omega arith)
    (λ t. let m' : missing T (u ∷ take_out s us) ≡ 0 = rw t at m in let k : missing T us ≡ 0 = missing_with T us s h (omega arith) in omega arith)

-- the source is listed before the fed node
pub add_same : (g : Graph) (s v : ℕ) (ns C stuck : List ℕ) (p : ℕ) (spots : List Spot) → IsLawful g (nodes_of spots) → IsListed C stuck spots → IsOrder (cut_wire g s v) (nodes_of spots) C stuck → p < length C → get_or C p 0 ≡ v → 0 < tally s (take p C) → IsOrder g (nodes_of spots) C stuck
add_same g s v ns C stuck p spots law k o l e h =
    let once : (x : ℕ) → tally x C ≤ 1 = chain_once (cut_wire g s v) (nodes_of spots) C o.listed in
    let un : tally v (take p C) ≡ 0 = subst (λ (w : ℕ). tally w (take p C) ≡ 0) e (not_in_front C p p once (omega arith) l) in
    let front : AreNext g (nodes_of spots) [] (take p C) = add_front g s v (nodes_of spots) C p o.listed (omega arith) un in
    let n0 : IsNext (cut_wire g s v) (nodes_of spots) (take p C) v = subst (λ (w : ℕ). IsNext (cut_wire g s v) (nodes_of spots) (take p C) w) e (next_at (cut_wire g s v) (nodes_of spots) C p o.listed l) in
    let f0 : missing (take p C) (take_out s (g.feeders v)) ≡ 0 = (let q : missing (take p C) (cond (v == v) (take_out s (g.feeders v)) (g.feeders v)) ≡ 0 = n0.ready.fed in rw (same_test v) at q) in
    let n : IsNext g (nodes_of spots) (take p C) v = record {
      ready = record { node = n0.ready.node; unlisted = un; fed = missing_with (take p C) (g.feeders v) s h f0 };
      least = λ y r. n0.least y (ready_less g s v (nodes_of spots) (take p C) y r);
    } in
    met_order (cut_wire g s v) g v C C stuck spots p (p + 1) (place_in spots) (cut_alike g s v) k o
    (same_met g (nodes_of spots) C p v (place_in spots) front n l e (front_places C stuck spots (p + 1) k once (omega arith)))
    (subst (λ (w : ℕ). 0 < tally w (take (p + 1) C)) e (in_front C (p + 1) p (omega arith) l))
