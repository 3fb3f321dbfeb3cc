-- A forest without a box, and without all that lies in it, is a forest.
use Rattle.std.proofs.Common.{◌≡◌, ◌≢◌, ℕ, zero, suc, ◌+◌, ◌<◌, List, [], ◌∷◌, ◌++◌, Option, Some, None, IsSome, inl, inr, refl, sym, ap, ◌∙◌, subst, arith}
use Rattle.std.specs.Prelude.{slice_get, ◌⊎◌}
use mathlib.Core.Logic.{⊎_elim}
use Rattle.std.proofs.lemmas.Bool.{cases_eq}
use Rattle.std.proofs.lemmas.Option.{none-some, same_Some}
use Rattle.pd_grove.specs.declared.nodes.Node.{Node}
use Rattle.pd_grove.specs.declared.boards.Board.{Board}
use Rattle.pd_grove.specs.Standing.{depth_of}
use Rattle.pd_grove.specs.Telling.{inner_in, keys_in}
use Rattle.pd_grove.specs.Owning.{board_in}
use Rattle.pd_grove.specs.Forest.{holder_in, IsForest, around, out_of}
use Rattle.pd_grove.specs.Grafts.{LiesInBox, TakesBox}
use Rattle.pd_grove.proofs.ForestLemmas.{held_there}
use Rattle.pd_grove.proofs.NestLemmas.{around_is, out_first, board_there, node_there, box_deep}
use Rattle.pd_grove.proofs.GraftLemmas.{raised, raised_at, raised_once, place_behind, middle_at, IsHere, IsThere, where_is, is_some}

-- a canvas of a box that lies in a box k lies in it too
pub below_box : (nodes : ℕ → Option Node) (boards : ℕ → Option Board) (root k x j : ℕ) → IsForest nodes boards root → around nodes boards j ≡ Some x → LiesInBox nodes boards k x → LiesInBox nodes boards k j
below_box nodes boards root k x j F h L = (L.0, L.1, (suc L.2.0, out_first nodes boards L.2.0 j x h ∙ L.2.1))

-- a canvas in a box lies in that box, or in one in which the box lies
pub above_box : (nodes : ℕ → Option Node) (boards : ℕ → Option Board) (root k l x j : ℕ) → IsForest nodes boards root → board_in (nodes l) ≡ Some x → inner_in (nodes l) ≡ Some j → LiesInBox nodes boards k j
    → (l ≡ k) ⊎ LiesInBox nodes boards k x
above_box nodes boards root k l x j F lies holds L = by L.0 L.1 L.2.0 L.2.1
  where
    by : (i : ℕ) → inner_in (nodes k) ≡ Some i → (m : ℕ) → out_of nodes boards m j ≡ Some i → (l ≡ k) ⊎ LiesInBox nodes boards k x
    by i e zero h = inl (same_Some l k (sym (F.inside l j holds) ∙ ap (λ y. holder_in (boards y)) (same_Some j i h) ∙ F.inside k i e))
    by i e (suc m) h = inr (i, e, (m, sym (out_first nodes boards m j x (around_is nodes boards root F l x j lies holds)) ∙ h))

some_box : (o : Option Node) (x : ℕ) → board_in o ≡ Some x → IsSome o
some_box None x h = absurd (none-some x h)
some_box (Some n) x h = refl

some_inner : (o : Option Node) (x : ℕ) → inner_in o ≡ Some x → IsSome o
some_inner None x h = absurd (none-some x h)
some_inner (Some n) x h = refl

some_holder : (o : Option Board) (x : ℕ) → holder_in o ≡ Some x → IsSome o
some_holder None x h = absurd (none-some x h)
some_holder (Some b) x h = refl

not_gone : {A : Type 0} (o : Option A) → o ≡ None → IsSome o → ⊥
not_gone None e h = absurd (cc)
not_gone (Some a) e h = absurd (none-some a (sym e))

low_board : (o o' : Option Board) → (IsSome o' → depth_of o' ≡ depth_of o) → depth_of o < 257 → depth_of o' < 257
low_board o None h l = omega arith
low_board o (Some b) h l = subst (λ y. y < 257) (sym (h refl)) l

pub raised_apart : (a : List ℕ) (i : ℕ) → raised a i ≢ place_behind a
raised_apart [] i = λ h. absurd (omega (arith, h))
raised_apart (x ∷ a) zero = λ h. absurd (omega (arith, h))
raised_apart (x ∷ a) (suc i) = λ h. raised_apart a i (omega (arith, h))

pub forest_pruned : (nodes nodes' : ℕ → Option Node) (boards boards' : ℕ → Option Board) (root c k : ℕ) (n : Node) (a b : List ℕ) → TakesBox nodes nodes' boards boards' c k n a b
    → IsForest nodes boards root → IsForest nodes' boards' root
forest_pruned nodes nodes' boards boards' root c k n a b T F =
    let lay : board_in (nodes k) ≡ Some c = ap board_in T.was ∙ ap (λ y. Some y) T.lay in
    let had : keys_in (boards c) ≡ a ++ k ∷ b = ap keys_in T.board ∙ T.had in
    let has : keys_in (boards' c) ≡ a ++ b = ap keys_in T.without ∙ T.has in
    let live_c : IsSome (boards' c) = is_some (boards' c) T.new T.without in
    let c_stays : LiesInBox nodes boards k c → ⊥ = (λ L. let q = box_deep nodes boards root k c c F lay L in absurd (omega (arith, q))) in
    let holder : (x : ℕ) → IsSome (boards' x) → holder_in (boards' x) ≡ holder_in (boards x) = (λ x live. ⊎_elim
    (λ (e : x ≡ c). ap (λ y. holder_in (boards' y)) e ∙ ap holder_in T.without ∙ T.holder ∙ sym (ap holder_in T.board) ∙ ap (λ y. holder_in (boards y)) (sym e))
    (λ (d : x ≢ c). ap holder_in (T.no_canvas_comes x d live)) (cases_eq x c)) in
    let depth : (x : ℕ) → IsSome (boards' x) → depth_of (boards' x) ≡ depth_of (boards x) = (λ x live. ⊎_elim
    (λ (e : x ≡ c). ap (λ y. depth_of (boards' y)) e ∙ ap depth_of T.without ∙ T.depth ∙ sym (ap depth_of T.board) ∙ ap (λ y. depth_of (boards y)) (sym e))
    (λ (d : x ≢ c). ap depth_of (T.no_canvas_comes x d live)) (cases_eq x c)) in
    let was_live : (x : ℕ) → IsSome (boards' x) → IsSome (boards x) = (λ x live. ⊎_elim
    (λ (e : x ≡ c). subst (λ y. IsSome (boards y)) (sym e) (is_some (boards c) T.old T.board))
    (λ (d : x ≢ c). subst (λ o. IsSome o) (T.no_canvas_comes x d live) live) (cases_eq x c)) in
    let is_live : (x : ℕ) → IsSome (boards x) → (LiesInBox nodes boards k x → ⊥) → IsSome (boards' x) = (λ x live no. ⊎_elim
    (λ (e : x ≡ c). subst (λ y. IsSome (boards' y)) (sym e) live_c)
    (λ (d : x ≢ c). subst (λ o. IsSome o) (sym (T.boards_stay x d no)) live) (cases_eq x c)) in
    let keeps : (x : ℕ) → IsSome (boards' x) → LiesInBox nodes boards k x → ⊥ = (λ x live L. not_gone (boards' x) (T.boards_go x L) live) in
    let old_lies : (l x : ℕ) → board_in (nodes' l) ≡ Some x → board_in (nodes l) ≡ Some x = (λ l x h. sym (ap board_in (T.none_comes l (some_box (nodes' l) x h))) ∙ h) in
    let old_holds : (l j : ℕ) → inner_in (nodes' l) ≡ Some j → inner_in (nodes l) ≡ Some j = (λ l j h. sym (ap inner_in (T.none_comes l (some_inner (nodes' l) j h))) ∙ h) in
    let not_k : (l : ℕ) → IsSome (nodes' l) → l ≢ k = (λ l live e. not_gone (nodes' l) (ap nodes' e ∙ T.gone) live) in
    let outside : (l x : ℕ) → board_in (nodes l) ≡ Some x → IsSome (nodes' l) → LiesInBox nodes boards k x → ⊥ = (λ l x h live L. not_gone (nodes' l) (T.nodes_go l x h L) live) in
    let canvas_lives : (l x : ℕ) → board_in (nodes' l) ≡ Some x → IsSome (boards' x) = (λ l x h.
    let P = F.placed l x (old_lies l x h) in
    let B = board_there (boards x) P.0 l P.1 in
    is_live x (is_some (boards x) B.0 B.1) (outside l x (old_lies l x h) (some_box (nodes' l) x h))) in
    let inner_lives : (l j : ℕ) → inner_in (nodes' l) ≡ Some j → IsSome (boards' j) = (λ l j h.
    let q = old_holds l j h in
    let live = some_inner (nodes' l) j h in
    let H = held_there (boards j) l (F.inside l j q) in
    let N = node_there (nodes l) j q in
    let lies : board_in (nodes l) ≡ Some N.0.board = ap board_in N.1 in
    is_live j (is_some (boards j) H.board H.is) (λ L. ⊎_elim (λ (e : l ≡ k). not_k l live e) (λ (M : LiesInBox nodes boards k N.0.board). outside l N.0.board lies live M)
    (above_box nodes boards root k l N.0.board j F lies q L))) in
    let spot : (x i l : ℕ) → x ≡ c → slice_get (keys_in (boards' x)) i ≡ Some l → slice_get (keys_in (boards c)) (raised a i) ≡ Some l = (λ x i l e at.
    ap (λ ks. slice_get ks (raised a i)) had ∙ raised_at a b k i ∙ ap (λ ks. slice_get ks i) (sym has) ∙ ap (λ y. slice_get (keys_in (boards' y)) i) (sym e) ∙ at) in
    let far : (x i l : ℕ) → x ≢ c → slice_get (keys_in (boards' x)) i ≡ Some l → slice_get (keys_in (boards x)) i ≡ Some l = (λ x i l d at.
    let B = board_there (boards' x) i l at in
    sym (ap (λ o. slice_get (keys_in o) i) (T.no_canvas_comes x d (is_some (boards' x) B.0 B.1))) ∙ at) in
    let middle : slice_get (keys_in (boards c)) (place_behind a) ≡ Some k = ap (λ ks. slice_get ks (place_behind a)) had ∙ middle_at a b k in
    let never : (i l : ℕ) → slice_get (keys_in (boards c)) (raised a i) ≡ Some l → l ≢ k = (λ i l at e.
    raised_apart a i (F.own.once c (raised a i) (place_behind a) l at (middle ∙ ap (λ y. Some y) (sym e)))) in
    let root_stays : LiesInBox nodes boards k root → ⊥ = (λ L. let q = box_deep nodes boards root k c root F lay L in let r = F.rooted.2 in absurd (omega (arith, q, r))) in
    let stays : (l x : ℕ) → l ≢ k → board_in (nodes l) ≡ Some x → (LiesInBox nodes boards k x → ⊥) → board_in (nodes' l) ≡ Some x = (λ l x d h no. ap board_in (T.nodes_stay l x d h no) ∙ h) in
    record {
      own = record {
        home = λ x i l at. ⊎_elim
            (λ (e : x ≡ c). stays l c (never i l (spot x i l e at)) (F.own.home c (raised a i) l (spot x i l e at)) c_stays ∙ ap (λ y. Some y) (sym e))
            (λ (d : x ≢ c).
            let B = board_there (boards' x) i l at in
            let h = F.own.home x i l (far x i l d at) in
            stays l x (λ e. d (same_Some x c (sym h ∙ ap (λ y. board_in (nodes y)) e ∙ lay))) h (keeps x (is_some (boards' x) B.0 B.1)))
            (cases_eq x c);
        once = λ x i m l at also. ⊎_elim
            (λ (e : x ≡ c). raised_once a i m (F.own.once c (raised a i) (raised a m) l (spot x i l e at) (spot x m l e also)))
            (λ (d : x ≢ c). F.own.once x i m l (far x i l d at) (far x m l d also))
            (cases_eq x c);
      };
      placed = λ l x h.
          let P = F.placed l x (old_lies l x h) in
          ⊎_elim
          (λ (e : x ≡ c). ⊎_elim
          (λ (H : IsHere a k P.0 l). absurd (not_k l (some_box (nodes' l) x h) H.key))
          (λ (W : IsThere a b P.0 l). (W.spot, ap (λ y. slice_get (keys_in (boards' y)) W.spot) e ∙ ap (λ ks. slice_get ks W.spot) has ∙ W.at))
          (where_is a b k P.0 l (sym (ap (λ ks. slice_get ks P.0) had) ∙ ap (λ y. slice_get (keys_in (boards y)) P.0) (sym e) ∙ P.1)))
          (λ (d : x ≢ c). (P.0, ap (λ o. slice_get (keys_in o) P.0) (T.no_canvas_comes x d (canvas_lives l x h)) ∙ P.1))
          (cases_eq x c);
      inside = λ l j h. holder j (inner_lives l j h) ∙ F.inside l j (old_holds l j h);
      held = λ x l h.
          let live = some_holder (boards' x) l h in
          let q = F.held x l (sym (holder x live) ∙ h) in
          let N = node_there (nodes l) x q in
          let lies : board_in (nodes l) ≡ Some N.0.board = ap board_in N.1 in
          ap inner_in (T.nodes_stay l N.0.board
          (λ e. keeps x live (x, sym (ap (λ y. inner_in (nodes y)) e) ∙ q, (zero, refl))) lies
          (λ L. keeps x live (below_box nodes boards root k N.0.board x F (around_is nodes boards root F l N.0.board x lies q) L))) ∙ q;
      deeper = λ l x j h q. depth j (inner_lives l j q) ∙ F.deeper l x j (old_lies l x h) (old_holds l j q) ∙ ap (λ y. y + 1) (sym (depth x (canvas_lives l x h)));
      rooted = (
        is_live root F.rooted.0 root_stays,
        holder root (is_live root F.rooted.0 root_stays) ∙ F.rooted.1,
        depth root (is_live root F.rooted.0 root_stays) ∙ F.rooted.2,
      );
      alone = λ x live h. F.alone x (was_live x live) (sym (holder x live) ∙ h);
      shallow = λ x. low_board (boards x) (boards' x) (depth x) (F.shallow x);
    }
