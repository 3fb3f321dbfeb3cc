-- Steps of the work: a node becomes known, a node goes out, its followers are told, it is listed.
use Rattle.std.proofs.Common.{◌≡◌, ℕ, ◌+◌, ◌<◌, ◌≤◌, ◌==◌, ◌-◌, Bool, cond, ◌⊎◌, inl, inr, List, [], ◌∷◌, ◌++◌, length, get_or, take, refl, sym, ◌∙◌, ap, subst, arith}
use Rattle.pd_order.proofs.Basics.{not_lt, zero_or, tally-take_le, by_test, same_node, same_test, other_node, other_test, tally-push_same, tally-push_other, tally_at, missing-push, all_listed, length_le, tally_more}
use Rattle.pd_order.specs.Graph.{Graph, tally, missing, IsLawful}
use Rattle.pd_order.specs.Heap.{IsHeap}
use Rattle.pd_order.specs.Spots.{put}
use Rattle.pd_order.specs.Work.{IsAtWork, IsGoing}

pub put_at : (f : ℕ → ℕ) (x v : ℕ) → put f x v x ≡ v
put_at f x v = rw (same_test x) refl

pub put_other : (f : ℕ → ℕ) (x v y : ℕ) → (x ≡ y → ⊥) → put f x v y ≡ f y
put_other f x v y h = rw (other_test x y h) refl

pub known_more : (g : Graph) (nodes T out told : List ℕ) (mk mk' : ℕ → ℕ) (heap heap' spare spare' : List ℕ) (x : ℕ) →
    IsAtWork g nodes T out told mk heap spare → mk x ≡ 0 → 0 < tally x nodes → tally x out ≡ 0 →
    ((y : ℕ) → mk' y ≡ put mk x (missing T (g.feeders x) + 1) y) →
    ((y : ℕ) → tally y heap' ≡ tally y (cond (missing T (g.feeders x) == 0) (x ∷ heap) heap)) →
    spare' ≡ spare ++ x ∷ [] → IsHeap g.rank heap' →
    IsAtWork g nodes T out told mk' heap' spare'
known_more g nodes T out told mk mk' heap heap' spare spare' x w z inn un em eh es hh =
    let not_told : tally x told ≡ 0 = zero_or (tally x told) (λ l. let k : 0 < mk x = w.told_known x l in absurd (omega arith)) in
    let not_heap : tally x heap ≡ 0 = zero_or (tally x heap) (λ l. let k : mk x ≡ 1 = (w.free x l).1 in absurd (omega arith)) in
    let not_spare : tally x spare ≡ 0 = zero_or (tally x spare) (λ l. let k : 0 < mk x = w.of_spare x l in absurd (omega arith)) in
    let at_x : mk' x ≡ missing T (g.feeders x) + 1 = em x ∙ put_at mk x (missing T (g.feeders x) + 1) in
    let same : (y : ℕ) → (x ≡ y → ⊥) → mk' y ≡ mk y = λ y n. em y ∙ put_other mk x (missing T (g.feeders x) + 1) y n in
    let heap_x : tally x heap' ≡ cond (missing T (g.feeders x) == 0) 1 0 = eh x ∙ by_test (missing T (g.feeders x) == 0) (λ t. rw (t, same_test x) (omega arith)) (λ t. rw t not_heap) in
    let heap_y : (y : ℕ) → (x ≡ y → ⊥) → tally y heap' ≡ tally y heap = λ y n. eh y ∙ by_test (missing T (g.feeders x) == 0) (λ t. rw (t, other_test x y n) (omega arith)) (λ t. rw t refl) in
    let spare_x : tally x spare' ≡ 1 = rw (es, tally-push_same x spare, not_spare) refl in
    let spare_y : (y : ℕ) → (x ≡ y → ⊥) → tally y spare' ≡ tally y spare = λ y n. rw es (tally-push_other y x spare n) in
    record {
      marks = λ y. by_test (x == y)
          (λ t. let s : x ≡ y = same_node x y t in subst (λ (v : ℕ). 0 < mk' v → mk' v + tally v told ≡ missing T (g.feeders v) + 1) s (λ _. rw (at_x, not_told) (omega arith)))
          (λ t. let e : mk' y ≡ mk y = same y (other_node x y t) in rw e (w.marks y));
      told_known = λ y l. by_test (x == y)
          (λ t. let s : x ≡ y = same_node x y t in let l' : 0 < tally x told = rw s l in absurd (omega arith))
          (λ t. let e : mk' y ≡ mk y = same y (other_node x y t) in rw e (w.told_known y l));
      free = λ y. by_test (x == y)
          (λ t. let s : x ≡ y = same_node x y t in subst (λ (v : ℕ). 0 < tally v heap' → (tally v out ≡ 0) × (mk' v ≡ 1)) s
          (λ l. (
            un,
            by_test (missing T (g.feeders x) == 0)
                (λ u. let m : missing T (g.feeders x) ≡ 0 = same_node (missing T (g.feeders x)) 0 u in omega arith)
                (λ u. let m : tally x heap' ≡ 0 = heap_x ∙ rw u refl in absurd (omega arith)),
          )))
          (λ t. let n : x ≡ y → ⊥ = other_node x y t in rw (heap_y y n, same y n) (w.free y));
      found = λ y. by_test (x == y)
          (λ t. let s : x ≡ y = same_node x y t in subst (λ (v : ℕ). tally v out ≡ 0 → mk' v ≡ 1 → 0 < tally v heap') s
          (λ _ l. let m : missing T (g.feeders x) ≡ 0 = omega arith in rw (heap_x, m) (omega arith)))
          (λ t. let n : x ≡ y → ⊥ = other_node x y t in rw (heap_y y n, same y n) (w.found y));
      heap_once = λ y. by_test (x == y)
          (λ t. let s : x ≡ y = same_node x y t in subst (λ (v : ℕ). tally v heap' ≤ 1) s (rw heap_x (by_test (missing T (g.feeders x) == 0) (λ u. rw u (omega arith)) (λ u. rw u (omega arith)))))
          (λ t. let n : x ≡ y → ⊥ = other_node x y t in rw (heap_y y n) (w.heap_once y));
      in_spare = λ y. by_test (x == y)
          (λ t. let s : x ≡ y = same_node x y t in subst (λ (v : ℕ). 0 < mk' v → 0 < tally v spare') s (λ _. rw spare_x (omega arith)))
          (λ t. let n : x ≡ y → ⊥ = other_node x y t in rw (spare_y y n, same y n) (w.in_spare y));
      of_spare = λ y. by_test (x == y)
          (λ t. let s : x ≡ y = same_node x y t in subst (λ (v : ℕ). 0 < tally v spare' → 0 < mk' v) s (λ _. rw at_x (omega arith)))
          (λ t. let n : x ≡ y → ⊥ = other_node x y t in rw (spare_y y n, same y n) (w.of_spare y));
      spare_once = λ y. by_test (x == y)
          (λ t. let s : x ≡ y = same_node x y t in subst (λ (v : ℕ). tally v spare' ≤ 1) s (rw spare_x (omega arith)))
          (λ t. let n : x ≡ y → ⊥ = other_node x y t in rw (spare_y y n) (w.spare_once y));
      inside = λ y. by_test (x == y)
          (λ t. let s : x ≡ y = same_node x y t in subst (λ (v : ℕ). 0 < mk' v → 0 < tally v nodes) s (λ _. inn))
          (λ t. let n : x ≡ y → ⊥ = other_node x y t in rw (same y n) (w.inside y));
      is_heap = hh;
    }

pub tally_le_missing : (y : ℕ) (T us : List ℕ) → tally y T ≡ 0 → tally y us ≤ missing T us
tally_le_missing y T us h = let e : missing (T ++ y ∷ []) us + tally y us ≡ missing T us = missing-push y T us h in omega arith

-- a follower of a node that goes out isn't out itself
pub follower_not_out : (g : Graph) (T : List ℕ) (y f : ℕ) → IsGoing g T y → 0 < tally y (g.feeders f) → tally f (T ++ y ∷ []) ≡ 0
follower_not_out g T y f k h =
    let a : tally f T ≡ 0 = zero_or (tally f T) (λ l. let m : 0 < tally y T = all_listed y T (g.feeders f) (k.closed f l) h in let u : tally y T ≡ 0 = k.unlisted in absurd (omega arith)) in
    let n : y ≡ f → ⊥ = λ e. let h' : 0 < tally y (g.feeders y) = subst (λ (v : ℕ). 0 < tally y (g.feeders v)) (sym e) h in
    let m : 0 < tally y T = all_listed y T (g.feeders y) k.fed h' in let u : tally y T ≡ 0 = k.unlisted in absurd (omega arith) in
    tally-push_other f y T n ∙ a

pub still_held : (g : Graph) (nodes T out : List ℕ) (mk : ℕ → ℕ) (heap spare : List ℕ) (y f i : ℕ) →
    IsLawful g nodes → IsAtWork g nodes T out (take i (g.followers y)) mk heap spare → tally y T ≡ 0 →
    i < length (g.followers y) → f ≡ get_or (g.followers y) i 0 → 0 < mk f → 2 ≤ mk f
still_held g nodes T out mk heap spare y f i law w un h e k =
    let a : mk f + tally f (take i (g.followers y)) ≡ missing T (g.feeders f) + 1 = w.marks f k in
    let b : tally f (take i (g.followers y)) + cond (f == f) 1 0 ≡ tally f (take (i + 1) (g.followers y)) = tally_more f (g.followers y) i f h e in
    let c : tally f (take i (g.followers y)) + 1 ≡ tally f (take (i + 1) (g.followers y)) = subst (λ (t : Bool). tally f (take i (g.followers y)) + cond t 1 0 ≡ tally f (take (i + 1) (g.followers y))) (same_test f) b in
    let d : tally f (take (i + 1) (g.followers y)) ≤ tally f (g.followers y) = tally-take_le f (i + 1) (g.followers y) in
    let j : tally y (g.feeders f) ≡ tally f (g.followers y) = law.joined f y in
    let m : tally y (g.feeders f) ≤ missing T (g.feeders f) = tally_le_missing y T (g.feeders f) un in
    omega arith

pub told_one : (g : Graph) (nodes T : List ℕ) (mk mk' : ℕ → ℕ) (heap heap' spare : List ℕ) (y f i : ℕ) →
    IsLawful g nodes → IsAtWork g nodes T (T ++ y ∷ []) (take i (g.followers y)) mk heap spare → IsGoing g T y →
    i < length (g.followers y) → f ≡ get_or (g.followers y) i 0 → 0 < mk f →
    ((x : ℕ) → mk' x ≡ put mk f (mk f - 1) x) →
    ((x : ℕ) → tally x heap' ≡ tally x (cond (mk f - 1 == 1) (f ∷ heap) heap)) → IsHeap g.rank heap' →
    IsAtWork g nodes T (T ++ y ∷ []) (take (i + 1) (g.followers y)) mk' heap' spare
told_one g nodes T mk mk' heap heap' spare y f i law w go h e k em eh hh =
    let two : 2 ≤ mk f = still_held g nodes T (T ++ y ∷ []) mk heap spare y f i law w go.unlisted h e k in
    let fo : List ℕ = g.followers y in
    let more : (x : ℕ) → tally x (take i fo) + cond (f == x) 1 0 ≡ tally x (take (i + 1) fo) = λ x. tally_more x fo i f h e in
    let fed : 0 < tally y (g.feeders f) = (let j : tally y (g.feeders f) ≡ tally f fo = law.joined f y in let t : 0 < tally (get_or fo i 0) fo = tally_at fo i h in let t' : 0 < tally f fo = rw e t in omega arith) in
    let un : tally f (T ++ y ∷ []) ≡ 0 = follower_not_out g T y f go fed in
    let not_heap : tally f heap ≡ 0 = zero_or (tally f heap) (λ l. let m : mk f ≡ 1 = (w.free f l).1 in absurd (omega arith)) in
    let at_f : mk' f ≡ mk f - 1 = em f ∙ put_at mk f (mk f - 1) in
    let same : (x : ℕ) → (f ≡ x → ⊥) → mk' x ≡ mk x = λ x n. em x ∙ put_other mk f (mk f - 1) x n in
    let told_f : tally f (take i fo) + 1 ≡ tally f (take (i + 1) fo) = subst (λ (t : Bool). tally f (take i fo) + cond t 1 0 ≡ tally f (take (i + 1) fo)) (same_test f) (more f) in
    let told_x : (x : ℕ) → (f ≡ x → ⊥) → tally x (take (i + 1) fo) ≡ tally x (take i fo) = λ x n.
    let q : tally x (take i fo) + 0 ≡ tally x (take (i + 1) fo) = subst (λ (t : Bool). tally x (take i fo) + cond t 1 0 ≡ tally x (take (i + 1) fo)) (other_test f x n) (more x) in omega arith in
    let heap_f : tally f heap' ≡ cond (mk f - 1 == 1) 1 0 = eh f ∙ by_test (mk f - 1 == 1) (λ t. rw (t, same_test f) (omega arith)) (λ t. rw t not_heap) in
    let heap_x : (x : ℕ) → (f ≡ x → ⊥) → tally x heap' ≡ tally x heap = λ x n. eh x ∙ by_test (mk f - 1 == 1) (λ t. rw (t, other_test f x n) (omega arith)) (λ t. rw t refl) in
    record {
      marks = λ x. by_test (f == x)
          (λ t. let s : f ≡ x = same_node f x t in subst (λ (v : ℕ). 0 < mk' v → mk' v + tally v (take (i + 1) fo) ≡ missing T (g.feeders v) + 1) s
          (λ _. let a : mk f + tally f (take i fo) ≡ missing T (g.feeders f) + 1 = w.marks f k in omega arith))
          (λ t. let n : f ≡ x → ⊥ = other_node f x t in rw (same x n, told_x x n) (w.marks x));
      told_known = λ x. by_test (f == x)
          (λ t. let s : f ≡ x = same_node f x t in subst (λ (v : ℕ). 0 < tally v (take (i + 1) fo) → 0 < mk' v) s (λ _. omega arith))
          (λ t. let n : f ≡ x → ⊥ = other_node f x t in rw (same x n, told_x x n) (w.told_known x));
      free = λ x. by_test (f == x)
          (λ t. let s : f ≡ x = same_node f x t in subst (λ (v : ℕ). 0 < tally v heap' → (tally v (T ++ y ∷ []) ≡ 0) × (mk' v ≡ 1)) s
          (λ l. (
            un,
            by_test (mk f - 1 == 1)
                (λ u. let m : mk f - 1 ≡ 1 = same_node (mk f - 1) 1 u in omega arith)
                (λ u. let m : tally f heap' ≡ 0 = heap_f ∙ rw u refl in absurd (omega arith)),
          )))
          (λ t. let n : f ≡ x → ⊥ = other_node f x t in rw (heap_x x n, same x n) (w.free x));
      found = λ x. by_test (f == x)
          (λ t. let s : f ≡ x = same_node f x t in subst (λ (v : ℕ). tally v (T ++ y ∷ []) ≡ 0 → mk' v ≡ 1 → 0 < tally v heap') s
          (λ _ l. let m : mk f - 1 ≡ 1 = omega arith in rw (heap_f, m) (omega arith)))
          (λ t. let n : f ≡ x → ⊥ = other_node f x t in rw (heap_x x n, same x n) (w.found x));
      heap_once = λ x. by_test (f == x)
          (λ t. let s : f ≡ x = same_node f x t in subst (λ (v : ℕ). tally v heap' ≤ 1) s (rw heap_f (by_test (mk f - 1 == 1) (λ u. rw u (omega arith)) (λ u. rw u (omega arith)))))
          (λ t. let n : f ≡ x → ⊥ = other_node f x t in rw (heap_x x n) (w.heap_once x));
      in_spare = λ x. by_test (f == x)
          (λ t. let s : f ≡ x = same_node f x t in subst (λ (v : ℕ). 0 < mk' v → 0 < tally v spare) s (λ _. w.in_spare f k))
          (λ t. let n : f ≡ x → ⊥ = other_node f x t in rw (same x n) (w.in_spare x));
      of_spare = λ x. by_test (f == x)
          (λ t. let s : f ≡ x = same_node f x t in subst (λ (v : ℕ). 0 < tally v spare → 0 < mk' v) s (λ _. omega arith))
          (λ t. let n : f ≡ x → ⊥ = other_node f x t in rw (same x n) (w.of_spare x));
      spare_once = w.spare_once;
      inside = λ x. by_test (f == x)
          (λ t. let s : f ≡ x = same_node f x t in subst (λ (v : ℕ). 0 < mk' v → 0 < tally v nodes) s (λ _. w.inside f k))
          (λ t. let n : f ≡ x → ⊥ = other_node f x t in rw (same x n) (w.inside x));
      is_heap = hh;
    }

pub popped : (g : Graph) (nodes T : List ℕ) (mk : ℕ → ℕ) (heap heap' spare fo : List ℕ) (y : ℕ) →
    IsAtWork g nodes T T [] mk heap spare → ((x : ℕ) → tally x heap ≡ tally x (y ∷ heap')) → IsHeap g.rank heap' →
    IsAtWork g nodes T (T ++ y ∷ []) (take 0 fo) mk heap' spare
popped g nodes T mk heap heap' spare fo y w eh hh =
    let gone : tally y heap' ≡ 0 = (let o : tally y heap ≤ 1 = w.heap_once y in let q : tally y heap ≡ cond (y == y) 1 0 + tally y heap' = eh y in
    let q' : tally y heap ≡ 1 + tally y heap' = subst (λ (t : Bool). tally y heap ≡ cond t 1 0 + tally y heap') (same_test y) q in omega arith) in
    let same : (x : ℕ) → (y ≡ x → ⊥) → tally x heap' ≡ tally x heap = λ x n. let q : tally x heap ≡ cond (y == x) 1 0 + tally x heap' = eh x in
    let q' : tally x heap ≡ 0 + tally x heap' = subst (λ (t : Bool). tally x heap ≡ cond t 1 0 + tally x heap') (other_test y x n) q in omega arith in
    record {
      marks = w.marks;
      told_known = w.told_known;
      free = λ x l. by_test (y == x)
          (λ t. let s : y ≡ x = same_node y x t in let l' : 0 < tally y heap' = rw s l in absurd (omega arith))
          (λ t. let n : y ≡ x → ⊥ = other_node y x t in let r : (tally x T ≡ 0) × (mk x ≡ 1) = w.free x (rw (← same x n) l) in (tally-push_other x y T n ∙ r.0, r.1));
      found = λ x u m. by_test (y == x)
          (λ t. let s : y ≡ x = same_node y x t in let p : tally y (T ++ y ∷ []) ≡ tally y T + 1 = tally-push_same y T in let u' : tally y (T ++ y ∷ []) ≡ 0 = subst (λ (v : ℕ). tally v (T ++ y ∷ []) ≡ 0) (sym s) u in absurd (omega arith))
          (λ t. let n : y ≡ x → ⊥ = other_node y x t in rw (same x n) (w.found x (sym (tally-push_other x y T n) ∙ u) m));
      heap_once = λ x. let q : tally x heap ≡ cond (y == x) 1 0 + tally x heap' = eh x in let o : tally x heap ≤ 1 = w.heap_once x in omega arith;
      in_spare = w.in_spare;
      of_spare = w.of_spare;
      spare_once = w.spare_once;
      inside = w.inside;
      is_heap = hh;
    }

pub released : (g : Graph) (nodes T : List ℕ) (mk : ℕ → ℕ) (heap spare : List ℕ) (y : ℕ) → IsLawful g nodes → tally y T ≡ 0 →
    IsAtWork g nodes T (T ++ y ∷ []) (g.followers y) mk heap spare → IsAtWork g nodes (T ++ y ∷ []) (T ++ y ∷ []) [] mk heap spare
released g nodes T mk heap spare y law un w = record {
  marks = λ x k. let a : mk x + tally x (g.followers y) ≡ missing T (g.feeders x) + 1 = w.marks x k in
      let b : missing (T ++ y ∷ []) (g.feeders x) + tally y (g.feeders x) ≡ missing T (g.feeders x) = missing-push y T (g.feeders x) un in
      let j : tally y (g.feeders x) ≡ tally x (g.followers y) = law.joined x y in omega arith;
  told_known = λ x l. absurd (omega arith);
  free = w.free;
  found = w.found;
  heap_once = w.heap_once;
  in_spare = w.in_spare;
  of_spare = w.of_spare;
  spare_once = w.spare_once;
  inside = w.inside;
  is_heap = w.is_heap;
}

-- room for one more
pub room_in_spare : (g : Graph) (nodes T out told : List ℕ) (mk : ℕ → ℕ) (heap spare : List ℕ) (x : ℕ) → IsAtWork g nodes T out told mk heap spare → mk x ≡ 0 → 0 < tally x nodes → length spare < length nodes
room_in_spare g nodes T out told mk heap spare x w z inn =
    let not_spare : tally x spare ≡ 0 = zero_or (tally x spare) (λ l. let k : 0 < mk x = w.of_spare x l in absurd (omega arith)) in
    let h : length (x ∷ spare) ≤ length nodes = length_le (x ∷ spare) nodes
    (λ y. by_test (x == y)
    (λ t. let s : x ≡ y = same_node x y t in subst (λ (v : ℕ). tally v (x ∷ spare) ≤ 1) s (rw (same_test x, not_spare) (omega arith)))
    (λ t. let o : tally y spare ≤ 1 = w.spare_once y in rw t (omega arith)))
    (λ y l. by_test (x == y)
    (λ t. let s : x ≡ y = same_node x y t in subst (λ (v : ℕ). 0 < tally v nodes) s inn)
    (λ t. w.inside y (w.of_spare y (let l' : 0 < 0 + tally y spare = rw t at l in omega arith)))) in
    omega arith

pub room_in_heap : (g : Graph) (nodes T out told : List ℕ) (mk : ℕ → ℕ) (heap spare : List ℕ) (x : ℕ) → IsAtWork g nodes T out told mk heap spare → (mk x ≡ 1 → ⊥) → 0 < tally x nodes → length heap < length nodes
room_in_heap g nodes T out told mk heap spare x w z inn =
    let not_heap : tally x heap ≡ 0 = zero_or (tally x heap) (λ l. absurd (z ((w.free x l).1))) in
    let h : length (x ∷ heap) ≤ length nodes = length_le (x ∷ heap) nodes
    (λ y. by_test (x == y)
    (λ t. let s : x ≡ y = same_node x y t in subst (λ (v : ℕ). tally v (x ∷ heap) ≤ 1) s (rw (same_test x, not_heap) (omega arith)))
    (λ t. let o : tally y heap ≤ 1 = w.heap_once y in rw t (omega arith)))
    (λ y l. by_test (x == y)
    (λ t. let s : x ≡ y = same_node x y t in subst (λ (v : ℕ). 0 < tally v nodes) s inn)
    (λ t. let l' : 0 < tally y heap = (let l2 : 0 < 0 + tally y heap = rw t at l in omega arith) in let m : mk y ≡ 1 = (w.free y l').1 in w.inside y (omega arith))) in
    omega arith

pub feeds_follower : (g : Graph) (nodes : List ℕ) (y f i : ℕ) → IsLawful g nodes → i < length (g.followers y) → f ≡ get_or (g.followers y) i 0 → 0 < tally y (g.feeders f)
feeds_follower g nodes y f i law h e =
    let j : tally y (g.feeders f) ≡ tally f (g.followers y) = law.joined f y in
    let t : 0 < tally (get_or (g.followers y) i 0) (g.followers y) = tally_at (g.followers y) i h in
    let t' : 0 < tally f (g.followers y) = rw e t in omega arith

-- marks that were above 0 stay so
pub still_known : (mk mk1 mk2 : ℕ → ℕ) (f : ℕ) → ((x : ℕ) → 0 < mk x → mk1 x ≡ mk x) → 2 ≤ mk1 f → ((x : ℕ) → mk2 x ≡ put mk1 f (mk1 f - 1) x) → (x : ℕ) → 0 < mk x → 0 < mk2 x
still_known mk mk1 mk2 f a b c x h = by_test (f == x)
    (λ t. let s : f ≡ x = same_node f x t in let e : mk2 f ≡ mk1 f - 1 = c f ∙ put_at mk1 f (mk1 f - 1) in subst (λ (v : ℕ). 0 < mk2 v) s (omega arith))
    (λ t. let e : mk2 x ≡ mk1 x = c x ∙ put_other mk1 f (mk1 f - 1) x (other_node f x t) in let k : mk1 x ≡ mk x = a x h in omega arith)

pub told_only : (g : Graph) (mk mk1 mk2 : ℕ → ℕ) (y f x : ℕ) → 0 < tally y (g.feeders f) → (0 < mk1 x → (x ≡ f) ⊎ (0 < mk x)) → mk2 x ≡ put mk1 f (mk1 f - 1) x → 0 < mk2 x → (0 < mk x) ⊎ (0 < tally y (g.feeders x))
told_only g mk mk1 mk2 y f x fed a e h = by_test (f == x)
    (λ t. inr (subst (λ (v : ℕ). 0 < tally y (g.feeders v)) (same_node f x t) fed))
    (λ t. let n : f ≡ x → ⊥ = other_node f x t in let q : mk2 x ≡ mk1 x = e ∙ put_other mk1 f (mk1 f - 1) x n in
    elim (a (omega arith)) [ inl s ↦ absurd (n (sym s)) | inr k ↦ inl k ])

-- the least of the heap after one more was passed
pub next_least : (g : Graph) (nodes heap heap' : List ℕ) (place mark : ℕ → ℕ) (y at : ℕ) → IsLawful g nodes → ((x : ℕ) → 0 < tally x heap' → 0 < tally x nodes) → ((x : ℕ) → 0 < tally x heap → g.rank (get_or heap 0 0) ≤ g.rank x) → ((x : ℕ) → 0 < tally x heap' → g.rank (get_or heap' 0 0) ≤ g.rank x) →
    ((x : ℕ) → 0 < tally x heap' → ((x ≡ y) × (mark y ≡ 0)) ⊎ (0 < tally x heap)) → ((x : ℕ) → 0 < tally x heap → 0 < tally x heap') →
    (mark y ≡ 0 → place y ≡ at) → ((0 < length heap) × (place (get_or heap 0 0) < at) → ⊥) → 0 < length heap' → at + 1 ≤ place (get_or heap' 0 0) + 1
next_least g nodes heap heap' place mark y at law ns l l' only kept py nf h =
    let t : 0 < tally (get_or heap' 0 0) heap' = tally_at heap' 0 h in
    elim (only (get_or heap' 0 0) t) [
      | inl e ↦ (let q : place y ≡ at = py e.1 in let s : place (get_or heap' 0 0) ≡ at = ap place e.0 ∙ q in omega arith)
      | inr k ↦ (let ne : 0 < length heap = there_length (get_or heap' 0 0) heap k in
          let t0 : 0 < tally (get_or heap 0 0) heap = tally_at heap 0 ne in
          let a : g.rank (get_or heap 0 0) ≤ g.rank (get_or heap' 0 0) = l (get_or heap' 0 0) k in
          let b : g.rank (get_or heap' 0 0) ≤ g.rank (get_or heap 0 0) = l' (get_or heap 0 0) (kept (get_or heap 0 0) t0) in
          let e : get_or heap' 0 0 ≡ get_or heap 0 0 = law.apart (get_or heap' 0 0) (get_or heap 0 0) (ns (get_or heap' 0 0) t) (ns (get_or heap 0 0) (kept (get_or heap 0 0) t0)) (omega arith) in
          let ge : at ≤ place (get_or heap 0 0) = not_lt (place (get_or heap 0 0)) at (λ w. nf (ne, w)) in
          let s : place (get_or heap' 0 0) ≡ place (get_or heap 0 0) = ap place e in omega arith)
    ]
  where
    there_length : (x : ℕ) (xs : List ℕ) → 0 < tally x xs → 0 < length xs
    there_length x [] h = absurd (omega arith)
    there_length x (y ∷ xs) h = omega arith
