-- The tree of a forest with one box more.
use Rattle.std.proofs.Common.{◌≡◌, ℕ, zero, suc, ◌+◌, ◌<◌, List, [], ◌∷◌, ◌++◌, Option, Some, None, IsSome, refl, sym, ap, ◌∙◌, subst, arith}
use Rattle.std.specs.Prelude.{option_and_then, slice_get, ◌-◌}
use Rattle.std.proofs.lemmas.Option.{none-some}
use Rattle.pd_tree.specs.declared.rows.Sheet.{Sheet}
use Rattle.pd_tree.specs.Trees.{Cell, Trees, Leaf, Tree, join}
use Rattle.pd_grove.specs.declared.nodes.Node.{Node}
use Rattle.pd_grove.specs.declared.boards.Board.{Board}
use Rattle.pd_grove.specs.Standing.{node_seen, depth_of}
use Rattle.pd_grove.specs.Telling.{inner_in, keys_in}
use Rattle.pd_grove.specs.Owning.{board_in}
use Rattle.pd_grove.specs.Forest.{IsForest, box_by, boxes_by, canvas_by, told, around, StaysAround, HasOther, HasLeafMore, box_before}
use Rattle.pd_grove.specs.Grafts.{HasBoxMore}
use Rattle.pd_grove.proofs.ForestLemmas.{told_zero, told_suc, held_there}
use Rattle.pd_grove.proofs.NestLemmas.{around_is, around_deep, boxes_same, by_join, canvas_changes}
use Rattle.pd_grove.proofs.GraftLemmas.{not_new}

-- the canvases of a part that holds what lies in them tell what they told, where all of it stays
pub part_same : (nodes nodes' : ℕ → Option Node) (boards boards' : ℕ → Option Board) (root : ℕ) → IsForest nodes boards root → (P : ℕ → Type 0)
    → ((x j : ℕ) → P x → around nodes boards j ≡ Some x → P j) → ((x : ℕ) → P x → IsSome (boards x) → boards' x ≡ boards x)
    → ((k x : ℕ) → P x → board_in (nodes k) ≡ Some x → nodes' k ≡ nodes k)
    → (n x : ℕ) (b : Board) → boards x ≡ Some b → P x → told nodes' boards' n x ≡ told nodes boards n x
part_same nodes nodes' boards boards' root F P below B N zero x b e p = told_zero nodes' boards' x ∙ sym (told_zero nodes boards x)
part_same nodes nodes' boards boards' root F P below B N (suc n) x b e p =
    let home : (i k : ℕ) → slice_get b.nodes.items i ≡ Some k → board_in (nodes k) ≡ Some x = (λ i k h. F.own.home x i k (ap (λ o. slice_get (keys_in o) i) e ∙ h)) in
    told_suc nodes' boards' n x
    ∙ ap (canvas_by nodes' (told nodes' boards' n)) (B x p (subst (λ o. IsSome o) (sym e) refl) ∙ e)
    ∙ ap (λ t. Some (record { sheet = b.sheet; boxes = t }))
    (boxes_same nodes nodes' (told nodes boards n) (told nodes' boards' n) b.nodes.items (λ i k h. N k x p (home i k h))
    (λ i k j h q. let H = held_there (boards j) k (F.inside k j q) in part_same nodes nodes' boards boards' root F P below B N n j H.board H.is (below x j p (around_is nodes boards root F k x j (home i k h) q))))
    ∙ ap (canvas_by nodes (told nodes boards n)) (sym e)
    ∙ sym (told_suc nodes boards n x)

pub boxes_joined : (nodes : ℕ → Option Node) (inside : ℕ → Option Tree) (a b : List ℕ) → boxes_by nodes inside (a ++ b) ≡ join (boxes_by nodes inside a) (boxes_by nodes inside b)
boxes_joined nodes inside [] b = refl
boxes_joined nodes inside (k ∷ a) b = ap (box_by inside (nodes k)) (boxes_joined nodes inside a b) ∙ by_join inside (nodes k) (boxes_by nodes inside a) (boxes_by nodes inside b)

pub get_first : (a b : List ℕ) (i k : ℕ) → slice_get a i ≡ Some k → slice_get (a ++ b) i ≡ Some k
get_first [] b zero k h = absurd (none-some k h)
get_first [] b (suc i) k h = absurd (none-some k h)
get_first (x ∷ a) b zero k h = h
get_first (x ∷ a) b (suc i) k h = get_first a b i k h

-- a place behind others
pub record IsBehind (a b : List ℕ) (k : ℕ) : Type 0 where
  pub place : ℕ
  pub at : slice_get (a ++ b) place ≡ Some k

pub get_behind : (a b : List ℕ) (i k : ℕ) → slice_get b i ≡ Some k → IsBehind a b k
get_behind [] b i k h = record { place = i; at = h }
get_behind (x ∷ a) b i k h = let R = get_behind a b i k h in record { place = suc R.place; at = R.at }

pub canvas_keys : (nodes : ℕ → Option Node) (inside : ℕ → Option Tree) (o : Option Board) (b : Board) (s : Sheet) (ks : List ℕ) → o ≡ Some b → b.sheet ≡ s → b.nodes.items ≡ ks
    → canvas_by nodes inside o ≡ Some (record { sheet = s; boxes = boxes_by nodes inside ks })
canvas_keys nodes inside o b s ks e h q =
    ap (canvas_by nodes inside) e ∙ ap (λ (z : Sheet). Some (record { sheet = z; boxes = boxes_by nodes inside b.nodes.items })) h
    ∙ ap (λ (z : List ℕ). Some (record { sheet = s; boxes = boxes_by nodes inside z })) q

one_leaf : (inside : ℕ → Option Tree) (o : Option Node) (n : Node) (rest : Trees) → o ≡ Some n → n.inner ≡ None → box_by inside o rest ≡ Leaf (node_seen n).cell rest
one_leaf inside o n rest e h = ap (λ z. box_by inside z rest) e ∙ ap (λ i. box_before (node_seen n).cell (option_and_then inside i) rest) h

record TellsMore (old new : Option Tree) (c : Cell) (before behind : Trees) : Type 0 where
  sheet : Sheet
  was : old ≡ Some (record { sheet = sheet; boxes = join before behind })
  is : new ≡ Some (record { sheet = sheet; boxes = join before (Leaf c behind) })

-- the canvas that has a box more tells a box more
canvas_more : (nodes nodes' : ℕ → Option Node) (boards boards' : ℕ → Option Board) (root c k : ℕ) (n : Node) (a b : List ℕ) → HasBoxMore nodes nodes' boards boards' c k n a b → IsForest nodes boards root
    → (m : ℕ) → TellsMore (told nodes boards (suc m) c) (told nodes' boards' (suc m) c) (node_seen n).cell (boxes_by nodes (told nodes boards m) a) (boxes_by nodes (told nodes boards m) b)
canvas_more nodes nodes' boards boards' root c k n a b M F m =
    let K = M.keys in
    let inside = told nodes boards m in
    let inside' = told nodes' boards' m in
    let has : (i l : ℕ) → slice_get (a ++ b) i ≡ Some l → board_in (nodes l) ≡ Some c = (λ i l h. F.own.home c i l (ap (λ o. slice_get (keys_in o) i) K.was ∙ ap (λ ks. slice_get ks i) K.had ∙ h)) in
    let stay : (l x : ℕ) → board_in (nodes l) ≡ Some x → nodes' l ≡ nodes l = (λ l x h. M.others l (not_new nodes k l x M.vacant h)) in
    let below : (l j : ℕ) → board_in (nodes l) ≡ Some c → inner_in (nodes l) ≡ Some j → inside' j ≡ inside j =
    (λ l j h q. let H = held_there (boards j) l (F.inside l j q) in
    let deep = F.deeper l c j h q in
    part_same nodes nodes' boards boards' root F (λ x. depth_of (boards c) < depth_of (boards x))
    (λ x y p r. let z = around_deep nodes boards root F y x r in omega (arith, p, z))
    (λ x p live. K.others x (λ e. let z = ap (λ y. depth_of (boards y)) e in absurd (omega (arith, p, z))))
    (λ l' x p h'. stay l' x h') m j H.board H.is (omega (arith, deep))) in
    let first : boxes_by nodes' inside' a ≡ boxes_by nodes inside a =
    boxes_same nodes nodes' inside inside' a (λ i l h. stay l c (has i l (get_first a b i l h))) (λ i l j h q. below l j (has i l (get_first a b i l h)) q) in
    let last : boxes_by nodes' inside' b ≡ boxes_by nodes inside b =
    boxes_same nodes nodes' inside inside' b (λ i l h. let R = get_behind a b i l h in stay l c (has R.place l R.at)) (λ i l j h q. let R = get_behind a b i l h in below l j (has R.place l R.at) q) in
    record {
      sheet = K.before.sheet;
      was = told_suc nodes boards m c ∙ canvas_keys nodes inside (boards c) K.before K.before.sheet (a ++ b) K.was refl K.had
          ∙ ap (λ t. Some (record { sheet = K.before.sheet; boxes = t })) (boxes_joined nodes inside a b);
      is = told_suc nodes' boards' m c ∙ canvas_keys nodes' inside' (boards' c) K.after K.before.sheet (a ++ k ∷ b) K.is K.sheet K.has
          ∙ ap (λ t. Some (record { sheet = K.before.sheet; boxes = t }))
          (boxes_joined nodes' inside' a (k ∷ b) ∙ ap (λ t. join t (boxes_by nodes' inside' (k ∷ b))) first
          ∙ ap (join (boxes_by nodes inside a)) (one_leaf inside' (nodes' k) n (boxes_by nodes' inside' b) M.is M.bare ∙ ap (Leaf (node_seen n).cell) last));
    }

stays_more : (nodes nodes' : ℕ → Option Node) (boards boards' : ℕ → Option Board) (c k : ℕ) (n : Node) (a b : List ℕ) → HasBoxMore nodes nodes' boards boards' c k n a b → StaysAround nodes nodes' boards boards' c
stays_more nodes nodes' boards boards' c k n a b M = record {
  boards_stay = λ x live no. M.keys.others x (λ e. no (zero, ap (λ y. Some y) e));
  nodes_stay = λ l x h no. M.others l (not_new nodes k l x M.vacant h);
}

pub tree_more : (nodes nodes' : ℕ → Option Node) (boards boards' : ℕ → Option Board) (root c k : ℕ) (n : Node) (a b : List ℕ) → HasBoxMore nodes nodes' boards boards' c k n a b → IsForest nodes boards root
    → HasLeafMore (told nodes boards 257 root) (told nodes' boards' 257 root) (node_seen n).cell
tree_more nodes nodes' boards boards' root c k n a b M F = by (level (depth_of (boards c)) (F.shallow c))
  where
    by : (m : ℕ) × (depth_of (boards c) + suc m ≡ 257) → HasLeafMore (told nodes boards 257 root) (told nodes' boards' 257 root) (node_seen n).cell
    by (m, q) =
        let T = canvas_more nodes nodes' boards boards' root c k n a b M F m in
        let x = boxes_by nodes (told nodes boards m) a in
        let y = boxes_by nodes (told nodes boards m) b in
        let H = canvas_changes nodes nodes' boards boards' root F M.keys.before.depth (suc m) c _ _ M.keys.before (stays_more nodes nodes' boards boards' c k n a b M) M.keys.was refl T.was T.is in
        let z : M.keys.before.depth + suc m ≡ 257 = ap (λ d. d + suc m) (sym (ap depth_of M.keys.was)) ∙ q in
        record {
          sheet = T.sheet;
          before = x;
          behind = y;
          at = subst (λ d. HasOther (told nodes boards d root) (told nodes' boards' d root) (record { sheet = T.sheet; boxes = join x y }) (record { sheet = T.sheet; boxes = join x (Leaf (node_seen n).cell y) })) z H;
        }

    level : (d : ℕ) → d < 257 → (m : ℕ) × (d + suc m ≡ 257)
    level d h = (256 - d, omega (arith, h))
