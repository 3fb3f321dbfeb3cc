-- The tree of a forest without a box.
use Rattle.std.proofs.Common.{◌≡◌, ◌≢◌, ℕ, zero, suc, ◌+◌, List, ◌∷◌, ◌++◌, Option, Some, refl, sym, ap, ◌∙◌, subst, arith}
use Rattle.std.specs.Prelude.{option_and_then, slice_get, ◌-◌}
use Rattle.std.proofs.lemmas.Option.{same_Some}
use Rattle.pd_tree.specs.declared.rows.Sheet.{Sheet}
use Rattle.pd_tree.specs.Trees.{Trees, Tree, join}
use Rattle.pd_grove.specs.declared.nodes.Node.{Node}
use Rattle.pd_grove.specs.declared.boards.Board.{Board}
use Rattle.pd_grove.specs.Standing.{node_seen, depth_of}
use Rattle.pd_grove.specs.Telling.{inner_in, keys_in}
use Rattle.pd_grove.specs.Owning.{board_in}
use Rattle.pd_grove.specs.Forest.{holder_in, IsForest, box_by, boxes_by, told, around, out_of, LiesIn, StaysAround, HasOther, HasBoxLess}
use Rattle.pd_grove.specs.Grafts.{LiesInBox, TakesBox}
use Rattle.pd_grove.proofs.ForestLemmas.{told_suc, held_there}
use Rattle.pd_grove.proofs.NestLemmas.{around_is, lies_deep, out_first, boxes_same, canvas_changes}
use Rattle.pd_grove.proofs.GraftLemmas.{raised, raised_at, place_behind, middle_at}
use Rattle.pd_forest_law.proofs.MoreLemmas.{part_same, boxes_joined, get_first, get_behind, canvas_keys}
use Rattle.pd_grove.proofs.PruneLemmas.{raised_apart}
use Rattle.pd_grove.proofs.NestLemmas.{box_deep}

-- another box of the canvas
record IsOther (nodes : ℕ → Option Node) (c k l : ℕ) : Type 0 where
  lies : board_in (nodes l) ≡ Some c
  other : l ≢ k

other_box : (nodes nodes' : ℕ → Option Node) (boards boards' : ℕ → Option Board) (root c k : ℕ) (n : Node) (a b : List ℕ) → TakesBox nodes nodes' boards boards' c k n a b → IsForest nodes boards root
    → (i l : ℕ) → slice_get (a ++ b) i ≡ Some l → IsOther nodes c k l
other_box nodes nodes' boards boards' root c k n a b T F i l h =
    let had : keys_in (boards c) ≡ a ++ k ∷ b = ap keys_in T.board ∙ T.had in
    let at : slice_get (keys_in (boards c)) (raised a i) ≡ Some l = ap (λ ks. slice_get ks (raised a i)) had ∙ raised_at a b k i ∙ h in
    let middle : slice_get (keys_in (boards c)) (place_behind a) ≡ Some k = ap (λ ks. slice_get ks (place_behind a)) had ∙ middle_at a b k in
    record {
      lies = F.own.home c (raised a i) l at;
      other = λ e. raised_apart a i (F.own.once c (raised a i) (place_behind a) l at (middle ∙ ap (λ y. Some y) (sym e)));
    }

-- what lies in another box of the canvas does not lie in the box that goes
not_in_box : (nodes : ℕ → Option Node) (boards : ℕ → Option Board) (root c k l j x : ℕ) → IsForest nodes boards root → board_in (nodes k) ≡ Some c → board_in (nodes l) ≡ Some c → inner_in (nodes l) ≡ Some j
    → l ≢ k → LiesIn nodes boards j x → LiesInBox nodes boards k x → ⊥
not_in_box nodes boards root c k l j x F lay lies holds other P L =
    let i = L.0 in
    let p = lies_deep nodes boards root F P.0 x j P.1 in
    let q = lies_deep nodes boards root F L.2.0 x i L.2.1 in
    let dj = F.deeper l c j lies holds in
    let di = F.deeper k c i lay L.1 in
    let steps : P.0 ≡ L.2.0 = omega (arith, p, q, dj, di) in
    let same : j ≡ i = same_Some j i (sym P.1 ∙ ap (λ m. out_of nodes boards m x) steps ∙ L.2.1) in
    other (same_Some l k (sym (F.inside l j holds) ∙ ap (λ y. holder_in (boards y)) same ∙ F.inside k i L.1))

pub record TellsLess (old new : Option Tree) (inside : ℕ → Option Tree) (n : Node) (before behind : Trees) : Type 0 where
  pub was : (s : Sheet) × (old ≡ Some (record { sheet = s; boxes = join before (box_by inside (Some n) behind) })) × (new ≡ Some (record { sheet = s; boxes = join before behind }))

canvas_less : (nodes nodes' : ℕ → Option Node) (boards boards' : ℕ → Option Board) (root c k : ℕ) (n : Node) (a b : List ℕ) → TakesBox nodes nodes' boards boards' c k n a b → IsForest nodes boards root
    → (m : ℕ) → TellsLess (told nodes boards (suc m) c) (told nodes' boards' (suc m) c) (told nodes boards m) n (boxes_by nodes (told nodes boards m) a) (boxes_by nodes (told nodes boards m) b)
canvas_less nodes nodes' boards boards' root c k n a b T F m =
    let inside = told nodes boards m in
    let inside' = told nodes' boards' m in
    let lay : board_in (nodes k) ≡ Some c = ap board_in T.was ∙ ap (λ y. Some y) T.lay in
    let box : (i l : ℕ) → slice_get (a ++ b) i ≡ Some l → IsOther nodes c k l = other_box nodes nodes' boards boards' root c k n a b T F in
    let c_stays : LiesInBox nodes boards k c → ⊥ = (λ L. let q = box_deep nodes boards root k c c F lay L in absurd (omega (arith, q))) in
    let stay : (l : ℕ) → IsOther nodes c k l → nodes' l ≡ nodes l = (λ l O. T.nodes_stay l c O.other O.lies c_stays) in
    let below : (l j : ℕ) → IsOther nodes c k l → inner_in (nodes l) ≡ Some j → inside' j ≡ inside j =
    (λ l j O q.
    let H = held_there (boards j) l (F.inside l j q) in
    let deep = F.deeper l c j O.lies q in
    let far : (x : ℕ) → LiesIn nodes boards j x → x ≢ c = (λ x p e. let z = lies_deep nodes boards root F p.0 x j p.1 in let w = ap (λ y. depth_of (boards y)) e in absurd (omega (arith, deep, z, w))) in
    let out : (x : ℕ) → LiesIn nodes boards j x → LiesInBox nodes boards k x → ⊥ = (λ x p L. not_in_box nodes boards root c k l j x F lay O.lies q O.other p L) in
    part_same nodes nodes' boards boards' root F (λ x. LiesIn nodes boards j x)
    (λ x y p r. (suc p.0, out_first nodes boards p.0 y x r ∙ p.1))
    (λ x p live. T.boards_stay x (far x p) (out x p))
    (λ l' x p h. T.nodes_stay l' x (λ e. far x p (same_Some x c (sym h ∙ ap (λ y. board_in (nodes y)) e ∙ lay))) h (out x p)) m j H.board H.is (zero, refl)) in
    let first : boxes_by nodes' inside' a ≡ boxes_by nodes inside a =
    boxes_same nodes nodes' inside inside' a (λ i l h. stay l (box i l (get_first a b i l h))) (λ i l j h q. below l j (box i l (get_first a b i l h)) q) in
    let last : boxes_by nodes' inside' b ≡ boxes_by nodes inside b =
    boxes_same nodes nodes' inside inside' b (λ i l h. let R = get_behind a b i l h in stay l (box R.place l R.at)) (λ i l j h q. let R = get_behind a b i l h in below l j (box R.place l R.at) q) in
    let x = boxes_by nodes inside a in
    let y = boxes_by nodes inside b in
    record {
      was = (
        T.old.sheet,
        told_suc nodes boards m c ∙ canvas_keys nodes inside (boards c) T.old T.old.sheet (a ++ k ∷ b) T.board refl T.had
            ∙ ap (λ t. Some (record { sheet = T.old.sheet; boxes = t })) (boxes_joined nodes inside a (k ∷ b) ∙ ap (λ o. join x (box_by inside o y)) T.was),
        told_suc nodes' boards' m c ∙ canvas_keys nodes' inside' (boards' c) T.new T.old.sheet (a ++ b) T.without T.sheet T.has
            ∙ ap (λ t. Some (record { sheet = T.old.sheet; boxes = t }))
            (boxes_joined nodes' inside' a b ∙ ap (λ t. join t (boxes_by nodes' inside' b)) first ∙ ap (join x) last),
      );
    }

stays_less : (nodes nodes' : ℕ → Option Node) (boards boards' : ℕ → Option Board) (root c k : ℕ) (n : Node) (a b : List ℕ) → TakesBox nodes nodes' boards boards' c k n a b → IsForest nodes boards root
    → StaysAround nodes nodes' boards boards' c
stays_less nodes nodes' boards boards' root c k n a b T F =
    let lay : board_in (nodes k) ≡ Some c = ap board_in T.was ∙ ap (λ y. Some y) T.lay in
    let in_c : (x : ℕ) → LiesInBox nodes boards k x → LiesIn nodes boards c x = (λ x L. (suc L.2.0, ap (option_and_then (around nodes boards)) L.2.1 ∙ around_is nodes boards root F k c L.0 lay L.1)) in
    record {
      boards_stay = λ x live no. T.boards_stay x (λ e. no (zero, ap (λ y. Some y) e)) (λ L. no (in_c x L));
      nodes_stay = λ l x h no. T.nodes_stay l x (λ e. no (zero, sym h ∙ ap (λ y. board_in (nodes y)) e ∙ lay)) h (λ L. no (in_c x L));
    }

pub tree_less : (nodes nodes' : ℕ → Option Node) (boards boards' : ℕ → Option Board) (root c k : ℕ) (n : Node) (a b : List ℕ) → TakesBox nodes nodes' boards boards' c k n a b → IsForest nodes boards root
    → HasBoxLess (told nodes boards 257 root) (told nodes' boards' 257 root) (node_seen n).cell
tree_less nodes nodes' boards boards' root c k n a b T F = at (256 - depth_of (boards c)) (let s = F.shallow c in omega (arith, s))
  where
    at : (m : ℕ) → depth_of (boards c) + suc m ≡ 257 → HasBoxLess (told nodes boards 257 root) (told nodes' boards' 257 root) (node_seen n).cell
    at m q =
        let L = canvas_less nodes nodes' boards boards' root c k n a b T F m in
        let inside = told nodes boards m in
        let x = boxes_by nodes inside a in
        let y = boxes_by nodes inside b in
        let u : Tree = record { sheet = L.was.0; boxes = join x (box_by inside (Some n) y) } in
        let v : Tree = record { sheet = L.was.0; boxes = join x y } in
        let H : HasOther (told nodes boards (T.old.depth + suc m) root) (told nodes' boards' (T.old.depth + suc m) root) u v =
        canvas_changes nodes nodes' boards boards' root F T.old.depth (suc m) c u v T.old (stays_less nodes nodes' boards boards' root c k n a b T F) T.board refl L.was.1 L.was.2 in
        let z : T.old.depth + suc m ≡ 257 = ap (λ d. d + suc m) (sym (ap depth_of T.board)) ∙ q in
        record {
          sheet = L.was.0;
          before = x;
          canvas = option_and_then inside n.inner;
          behind = y;
          at = subst (λ d. HasOther (told nodes boards d root) (told nodes' boards' d root) u v) z H;
        }
