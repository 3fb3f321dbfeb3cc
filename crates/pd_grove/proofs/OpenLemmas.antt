-- A forest in which a box becomes another, or gets a canvas.
use Rattle.std.proofs.Common.{◌≡◌, ◌≢◌, ℕ, ◌+◌, ◌<◌, [], Option, Some, None, IsSome, sym, ap, ◌∙◌, subst, arith}
use Rattle.std.specs.Prelude.{slice_get}
use mathlib.Core.Logic.{⊎_elim}
use Rattle.std.proofs.lemmas.Bool.{cases_eq}
use Rattle.std.proofs.lemmas.Option.{none-some, same_Some}
use Rattle.pd_grove.specs.declared.nodes.Node.{Node}
use Rattle.pd_grove.specs.declared.boards.Board.{Board}
use Rattle.pd_grove.specs.Standing.{depth_of}
use Rattle.pd_grove.specs.Telling.{inner_in, keys_in}
use Rattle.pd_grove.specs.Owning.{board_in}
use Rattle.pd_grove.specs.Forest.{holder_in, IsForest}
use Rattle.pd_grove.specs.Grafts.{HasCanvasMore, AreAlike}
use Rattle.pd_grove.proofs.OwnLemmas.{own_bare, own_nodes, own_open}
use Rattle.pd_grove.proofs.ForestLemmas.{held_there}
use Rattle.pd_grove.proofs.NestLemmas.{board_there}
use Rattle.pd_grove.proofs.GraftLemmas.{is_some}

-- where boxes and canvases lie as they lay
pub forest_alike : (nodes nodes' : ℕ → Option Node) (boards boards' : ℕ → Option Board) (root : ℕ) → AreAlike nodes nodes' boards boards' → IsForest nodes boards root → IsForest nodes' boards' root
forest_alike nodes nodes' boards boards' root A F =
    let back : (c i k : ℕ) → slice_get (keys_in (boards' c)) i ≡ Some k → slice_get (keys_in (boards c)) i ≡ Some k = (λ c i k at. sym (ap (λ ks. slice_get ks i) (A.keys c)) ∙ at) in
    record {
      own = record {
        home = λ c i k at. A.lie k ∙ F.own.home c i k (back c i k at);
        once = λ c i m k at also. F.own.once c i m k (back c i k at) (back c m k also);
      };
      placed = λ k c h. let P = F.placed k c (sym (A.lie k) ∙ h) in (P.0, ap (λ ks. slice_get ks P.0) (A.keys c) ∙ P.1);
      inside = λ k j h. A.holders j ∙ F.inside k j (sym (A.hold k) ∙ h);
      held = λ c k h. A.hold k ∙ F.held c k (sym (A.holders c) ∙ h);
      deeper = λ k c j h q. A.depths j ∙ F.deeper k c j (sym (A.lie k) ∙ h) (sym (A.hold k) ∙ q) ∙ ap (λ y. y + 1) (sym (A.depths c));
      rooted = (A.live root F.rooted.0, A.holders root ∙ F.rooted.1, A.depths root ∙ F.rooted.2);
      alone = λ c live h. F.alone c (A.no_more c live) (sym (A.holders c) ∙ h);
      shallow = λ c. subst (λ y. y < 257) (sym (A.depths c)) (F.shallow c);
    }

pub some_not_none : (o : Option Board) → IsSome o → o ≡ None → ⊥
some_not_none None h e = absurd (cc)
some_not_none (Some b) h e = none-some b (sym e)

-- a box gets a canvas
pub forest_opened : (nodes nodes' : ℕ → Option Node) (boards boards' : ℕ → Option Board) (root k j : ℕ) (n : Node) (b : Board) → HasCanvasMore nodes nodes' boards boards' k j n b
    → IsForest nodes boards root → IsForest nodes' boards' root
forest_opened nodes nodes' boards boards' root k j n b M F =
    let lie : (l : ℕ) → board_in (nodes' l) ≡ board_in (nodes l) = (λ l. ⊎_elim
    (λ (e : l ≡ k). ap (λ y. board_in (nodes' y)) e ∙ ap board_in M.is ∙ ap board_in (sym M.was) ∙ ap (λ y. board_in (nodes y)) (sym e))
    (λ (d : l ≢ k). ap board_in (M.others l d)) (cases_eq l k)) in
    let lies : board_in (nodes k) ≡ Some n.board = ap board_in M.was in
    let holds : inner_in (nodes' k) ≡ Some j = ap inner_in M.is in
    let bare : inner_in (nodes k) ≡ None = ap inner_in M.was ∙ M.bare in
    let none : keys_in (boards' j) ≡ [] = ap keys_in M.opened ∙ M.empty in
    let depth_j : depth_of (boards' j) ≡ b.depth = ap depth_of M.opened in
    let has_box : (l x : ℕ) → board_in (nodes l) ≡ Some x → x ≢ j = (λ l x h e.
    let P = F.placed l x h in
    let B = board_there (boards x) P.0 l P.1 in
    some_not_none (boards x) (is_some (boards x) B.0 B.1) (ap boards e ∙ M.vacant)) in
    let in_box : (l i : ℕ) → inner_in (nodes l) ≡ Some i → i ≢ j = (λ l i h e.
    let H = held_there (boards i) l (F.inside l i h) in
    some_not_none (boards i) (is_some (boards i) H.board H.is) (ap boards e ∙ M.vacant)) in
    let root_is : root ≢ j = (λ e. some_not_none (boards root) F.rooted.0 (ap boards e ∙ M.vacant)) in
    let held_k : holder_in (boards' j) ≡ Some k = ap holder_in M.opened ∙ M.held in
    let is_j : (l i : ℕ) → l ≡ k → inner_in (nodes' l) ≡ Some i → j ≡ i = (λ l i e h. same_Some j i (sym holds ∙ ap (λ y. inner_in (nodes' y)) (sym e) ∙ h)) in
    let old : (l i : ℕ) → l ≢ k → inner_in (nodes' l) ≡ Some i → inner_in (nodes l) ≡ Some i = (λ l i d h. sym (ap inner_in (M.others l d)) ∙ h) in
    record {
      own = own_nodes nodes nodes' boards' lie (own_open nodes boards boards' j none M.stay F.own);
      placed = λ l x h.
          let q = sym (lie l) ∙ h in
          let P = F.placed l x q in
          (P.0, ap (λ o. slice_get (keys_in o) P.0) (M.stay x (has_box l x q)) ∙ P.1);
      inside = λ l i h. ⊎_elim
          (λ (e : l ≡ k). ap (λ y. holder_in (boards' y)) (sym (is_j l i e h)) ∙ held_k ∙ ap (λ y. Some y) (sym e))
          (λ (d : l ≢ k). ap holder_in (M.stay i (in_box l i (old l i d h))) ∙ F.inside l i (old l i d h))
          (cases_eq l k);
      held = λ x l h. ⊎_elim
          (λ (e : x ≡ j).
          let same : k ≡ l = same_Some k l (sym held_k ∙ ap (λ y. holder_in (boards' y)) (sym e) ∙ h) in
          ap (λ y. inner_in (nodes' y)) (sym same) ∙ holds ∙ ap (λ y. Some y) (sym e))
          (λ (d : x ≢ j).
          let q = F.held x l (sym (ap holder_in (M.stay x d)) ∙ h) in
          ap inner_in (M.others l (λ e. none-some x (sym bare ∙ ap (λ y. inner_in (nodes y)) (sym e) ∙ q))) ∙ q)
          (cases_eq x j);
      deeper = λ l x i h q.
          let at = sym (lie l) ∙ h in
          let stay : depth_of (boards' x) ≡ depth_of (boards x) = ap depth_of (M.stay x (has_box l x at)) in
          ⊎_elim
          (λ (e : l ≡ k).
          let same : n.board ≡ x = same_Some n.board x (sym lies ∙ ap (λ y. board_in (nodes y)) (sym e) ∙ at) in
          ap (λ y. depth_of (boards' y)) (sym (is_j l i e q)) ∙ depth_j ∙ M.deeper ∙ ap (λ y. depth_of (boards y) + 1) same ∙ ap (λ y. y + 1) (sym stay))
          (λ (d : l ≢ k). ap depth_of (M.stay i (in_box l i (old l i d q))) ∙ F.deeper l x i at (old l i d q) ∙ ap (λ y. y + 1) (sym stay))
          (cases_eq l k);
      rooted = (
        subst (λ o. IsSome o) (sym (M.stay root root_is)) F.rooted.0,
        ap holder_in (M.stay root root_is) ∙ F.rooted.1,
        ap depth_of (M.stay root root_is) ∙ F.rooted.2,
      );
      alone = λ x live h. ⊎_elim
          (λ (e : x ≡ j). absurd (none-some k (sym h ∙ ap (λ y. holder_in (boards' y)) e ∙ held_k)))
          (λ (d : x ≢ j). F.alone x (subst (λ o. IsSome o) (M.stay x d) live) (sym (ap holder_in (M.stay x d)) ∙ h))
          (cases_eq x j);
      shallow = λ x. ⊎_elim
          (λ (e : x ≡ j). subst (λ y. y < 257) (sym (ap (λ y. depth_of (boards' y)) e ∙ depth_j)) M.low)
          (λ (d : x ≢ j). subst (λ y. y < 257) (sym (ap depth_of (M.stay x d))) (F.shallow x))
          (cases_eq x j);
    }

-- a root without boxes is a forest
pub forest_bare : (nodes : ℕ → Option Node) (boards : ℕ → Option Board) (root : ℕ) (b : Board) → ((k : ℕ) → nodes k ≡ None) → boards root ≡ Some b → b.holder ≡ None → b.depth ≡ 0 → b.nodes.items ≡ []
    → ((c : ℕ) → c ≢ root → boards c ≡ None) → IsForest nodes boards root
forest_bare nodes boards root b none is free top empty others =
    let keys : (c : ℕ) → keys_in (boards c) ≡ [] = (λ c. ⊎_elim (λ (e : c ≡ root). ap (λ y. keys_in (boards y)) e ∙ ap keys_in is ∙ empty) (λ (d : c ≢ root). ap keys_in (others c d)) (cases_eq c root)) in
    let holder : (c : ℕ) → holder_in (boards c) ≡ None = (λ c. ⊎_elim (λ (e : c ≡ root). ap (λ y. holder_in (boards y)) e ∙ ap holder_in is ∙ free) (λ (d : c ≢ root). ap holder_in (others c d)) (cases_eq c root)) in
    let depth : (c : ℕ) → depth_of (boards c) ≡ 0 = (λ c. ⊎_elim (λ (e : c ≡ root). ap (λ y. depth_of (boards y)) e ∙ ap depth_of is ∙ top) (λ (d : c ≢ root). ap depth_of (others c d)) (cases_eq c root)) in
    record {
      own = own_bare nodes boards keys;
      placed = λ k c h. absurd (none-some c (sym (ap board_in (none k)) ∙ h));
      inside = λ k j h. absurd (none-some j (sym (ap inner_in (none k)) ∙ h));
      held = λ c k h. absurd (none-some k (sym (holder c) ∙ h));
      deeper = λ k c j h q. absurd (none-some c (sym (ap board_in (none k)) ∙ h));
      rooted = (is_some (boards root) b is, holder root, depth root);
      alone = λ c live h. ⊎_elim (λ (e : c ≡ root). e) (λ (d : c ≢ root). absurd (some_not_none (boards c) live (others c d))) (cases_eq c root);
      shallow = λ c. (let q = depth c in omega (arith, q));
    }
