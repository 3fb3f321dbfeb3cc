-- The tree of a forest in which a box becomes another, or gets a canvas.
use Rattle.std.proofs.Common.{◌≡◌, ◌≢◌, ℕ, zero, suc, ◌+◌, ◌<◌, List, [], ◌∷◌, ◌++◌, Option, Some, None, refl, sym, ap, ◌∙◌, subst, arith}
use Rattle.std.specs.Prelude.{option_and_then, slice_get, ◌-◌}
use Rattle.std.proofs.lemmas.Option.{none-some, same_Some}
use Rattle.pd_tree.specs.declared.rows.Sheet.{Sheet}
use Rattle.pd_tree.specs.Trees.{Trees, Done, Tree, join}
use Rattle.pd_grove.specs.declared.nodes.Node.{Node}
use Rattle.pd_grove.specs.declared.boards.Board.{Board}
use Rattle.pd_grove.specs.Standing.{node_seen, with_inner, depth_of}
use Rattle.pd_grove.specs.Telling.{inner_in, keys_in}
use Rattle.pd_grove.specs.Owning.{board_in}
use Rattle.pd_grove.specs.Forest.{IsForest, box_by, boxes_by, told, StaysAround, HasOther, HasBoxOther}
use Rattle.pd_grove.specs.Grafts.{HasBoxChanged, HasCanvasMore}
use Rattle.pd_grove.proofs.OpenLemmas.{some_not_none}
use Rattle.pd_grove.proofs.ForestLemmas.{told_suc, held_there}
use Rattle.pd_grove.proofs.NestLemmas.{around_deep, boxes_same, board_there, canvas_changes}
use Rattle.pd_grove.proofs.GraftLemmas.{is_some, place_behind, middle_at}
use Rattle.pd_forest_law.proofs.MoreLemmas.{part_same, boxes_joined, get_first, canvas_keys}

-- a list at a place
record IsSplit (ks : List ℕ) (i k : ℕ) : Type 0 where
  before : List ℕ
  behind : List ℕ
  is : ks ≡ before ++ k ∷ behind

split_at : (ks : List ℕ) (i k : ℕ) → slice_get ks i ≡ Some k → IsSplit ks i k
split_at [] zero k h = absurd (none-some k h)
split_at [] (suc i) k h = absurd (none-some k h)
split_at (x ∷ ks) zero k h = record { before = []; behind = ks; is = ap (λ y. y ∷ ks) (same_Some x k h) }
split_at (x ∷ ks) (suc i) k h = let R = split_at ks i k h in record { before = x ∷ R.before; behind = R.behind; is = ap (λ l. x ∷ l) R.is }

place_first : (a b : List ℕ) (k i : ℕ) → slice_get a i ≡ Some k → (j : ℕ) → slice_get (a ++ b) j ≡ Some k → i ≡ j → i < place_behind a
place_first [] b k zero h j g e = absurd (none-some k h)
place_first [] b k (suc i) h j g e = absurd (none-some k h)
place_first (x ∷ a) b k zero h j g e = omega arith
place_first (x ∷ a) b k (suc i) h j g e = (let r = place_first a b k i h i (get_first a b i k h) refl in omega (arith, r))

record IsLater (a b : List ℕ) (l : ℕ) : Type 0 where
  place : ℕ
  at : slice_get (a ++ b) place ≡ Some l
  later : place_behind a < place

get_later : (a b : List ℕ) (k i l : ℕ) → slice_get b i ≡ Some l → IsLater a (k ∷ b) l
get_later [] b k i l h = record { place = suc i; at = h; later = omega arith }
get_later (x ∷ a) b k i l h = let R = get_later a b k i l h in record { place = suc R.place; at = R.at; later = (let r = R.later in omega (arith, r)) }

-- what a tree has in place of a box
record TellsOther (old new : Option Tree) (inside inside' : ℕ → Option Tree) (n n' : Node) : Type 0 where
  sheet : Sheet
  before : Trees
  behind : Trees
  was : old ≡ Some (record { sheet = sheet; boxes = join before (box_by inside (Some n) behind) })
  is : new ≡ Some (record { sheet = sheet; boxes = join before (box_by inside' (Some n') behind) })

-- a canvas below the one in which the box lies tells what it told
below_same : (nodes nodes' : ℕ → Option Node) (boards boards' : ℕ → Option Board) (root c k : ℕ) (n n' : Node) → HasBoxChanged nodes nodes' boards boards' c k n n' → IsForest nodes boards root
    → (m l j : ℕ) → board_in (nodes l) ≡ Some c → inner_in (nodes l) ≡ Some j → told nodes' boards' m j ≡ told nodes boards m j
below_same nodes nodes' boards boards' root c k n n' M F m l j lies holds =
    let H = held_there (boards j) l (F.inside l j holds) in
    let deep = F.deeper l c j lies holds in
    let lay : board_in (nodes k) ≡ Some c = ap board_in M.was ∙ ap (λ y. Some y) M.lay in
    part_same nodes nodes' boards boards' root F (λ x. depth_of (boards c) < depth_of (boards x))
    (λ x y p r. let z = around_deep nodes boards root F y x r in omega (arith, p, z))
    (λ x p live. M.stay x live)
    (λ i x p h. M.others i (λ e. let z = ap (λ y. depth_of (boards y)) (same_Some x c (sym h ∙ ap (λ y. board_in (nodes y)) e ∙ lay)) in absurd (omega (arith, p, z)))) m j H.board H.is (omega (arith, deep))

canvas_other : (nodes nodes' : ℕ → Option Node) (boards boards' : ℕ → Option Board) (root c k : ℕ) (n n' : Node) → HasBoxChanged nodes nodes' boards boards' c k n n' → IsForest nodes boards root
    → (m i : ℕ) (b : Board) → boards c ≡ Some b → slice_get b.nodes.items i ≡ Some k → TellsOther (told nodes boards (suc m) c) (told nodes' boards' (suc m) c) (told nodes boards m) (told nodes' boards' m) n n'
canvas_other nodes nodes' boards boards' root c k n n' M F m i b e at =
    let inside = told nodes boards m in
    let inside' = told nodes' boards' m in
    let R = split_at b.nodes.items i k at in
    let keys : keys_in (boards c) ≡ R.before ++ k ∷ R.behind = ap keys_in e ∙ R.is in
    let there : (p l : ℕ) → slice_get (R.before ++ k ∷ R.behind) p ≡ Some l → slice_get (keys_in (boards c)) p ≡ Some l = (λ p l h. ap (λ ks. slice_get ks p) keys ∙ h) in
    let home : (p l : ℕ) → slice_get (R.before ++ k ∷ R.behind) p ≡ Some l → board_in (nodes l) ≡ Some c = (λ p l h. F.own.home c p l (there p l h)) in
    let middle : slice_get (keys_in (boards c)) (place_behind R.before) ≡ Some k = there (place_behind R.before) k (middle_at R.before R.behind k) in
    let apart : (p l : ℕ) → slice_get (R.before ++ k ∷ R.behind) p ≡ Some l → p ≢ place_behind R.before → l ≢ k =
    (λ p l h d q. d (F.own.once c p (place_behind R.before) l (there p l h) (middle ∙ ap (λ y. Some y) (sym q)))) in
    let early : (p l : ℕ) → slice_get R.before p ≡ Some l → p ≢ place_behind R.before =
    (λ p l h q. let r = place_first R.before (k ∷ R.behind) l p h p (get_first R.before (k ∷ R.behind) p l h) refl in absurd (omega (arith, r, q))) in
    let first : boxes_by nodes' inside' R.before ≡ boxes_by nodes inside R.before =
    boxes_same nodes nodes' inside inside' R.before
    (λ p l h. M.others l (apart p l (get_first R.before (k ∷ R.behind) p l h) (early p l h)))
    (λ p l j h q. below_same nodes nodes' boards boards' root c k n n' M F m l j (home p l (get_first R.before (k ∷ R.behind) p l h)) q) in
    let last : boxes_by nodes' inside' R.behind ≡ boxes_by nodes inside R.behind =
    boxes_same nodes nodes' inside inside' R.behind
    (λ p l h. let L = get_later R.before R.behind k p l h in M.others l (apart L.place l L.at (λ q. let r = L.later in absurd (omega (arith, r, q)))))
    (λ p l j h q. let L = get_later R.before R.behind k p l h in below_same nodes nodes' boards boards' root c k n n' M F m l j (home L.place l L.at) q) in
    let x = boxes_by nodes inside R.before in
    let y = boxes_by nodes inside R.behind in
    record {
      sheet = b.sheet;
      before = x;
      behind = y;
      was = told_suc nodes boards m c ∙ canvas_keys nodes inside (boards c) b b.sheet (R.before ++ k ∷ R.behind) e refl R.is
          ∙ ap (λ t. Some (record { sheet = b.sheet; boxes = t })) (boxes_joined nodes inside R.before (k ∷ R.behind) ∙ ap (λ o. join x (box_by inside o y)) M.was);
      is = told_suc nodes' boards' m c ∙ canvas_keys nodes' inside' (boards' c) b b.sheet (R.before ++ k ∷ R.behind) (M.stay c (is_some (boards c) b e) ∙ e) refl R.is
          ∙ ap (λ t. Some (record { sheet = b.sheet; boxes = t }))
          (boxes_joined nodes' inside' R.before (k ∷ R.behind) ∙ ap (λ o. join (boxes_by nodes' inside' R.before) (box_by inside' o (boxes_by nodes' inside' R.behind))) M.is
          ∙ ap (λ t. join t (box_by inside' (Some n') (boxes_by nodes' inside' R.behind))) first ∙ ap (λ t. join x (box_by inside' (Some n') t)) last);
    }

stays_changed : (nodes nodes' : ℕ → Option Node) (boards boards' : ℕ → Option Board) (c k : ℕ) (n n' : Node) → HasBoxChanged nodes nodes' boards boards' c k n n' → StaysAround nodes nodes' boards boards' c
stays_changed nodes nodes' boards boards' c k n n' M = record {
  boards_stay = λ x live no. M.stay x live;
  nodes_stay = λ l x h no. M.others l (λ e. no (zero, sym h ∙ ap (λ y. board_in (nodes y)) e ∙ ap board_in M.was ∙ ap (λ y. Some y) M.lay));
}

-- what a box holds, that lies in a canvas so deep
abbrev pub canvas_held : (ℕ → Option Node) → (ℕ → Option Board) → ℕ → Option ℕ → Option Tree
canvas_held nodes boards d i = option_and_then (told nodes boards (256 - d)) i

pub tree_other : (nodes nodes' : ℕ → Option Node) (boards boards' : ℕ → Option Board) (root c k : ℕ) (n n' : Node) → HasBoxChanged nodes nodes' boards boards' c k n n' → IsForest nodes boards root
    → HasBoxOther (told nodes boards 257 root) (told nodes' boards' 257 root)
    (node_seen n).cell (canvas_held nodes boards (depth_of (boards c)) n.inner) (node_seen n').cell (canvas_held nodes' boards' (depth_of (boards c)) n'.inner)
tree_other nodes nodes' boards boards' root c k n n' M F = at (256 - depth_of (boards c)) (let s = F.shallow c in omega (arith, s))
  where
    at : (m : ℕ) → depth_of (boards c) + suc m ≡ 257
        → HasBoxOther (told nodes boards 257 root) (told nodes' boards' 257 root) (node_seen n).cell (option_and_then (told nodes boards m) n.inner) (node_seen n').cell (option_and_then (told nodes' boards' m) n'.inner)
    at m q =
        let P = F.placed k c (ap board_in M.was ∙ ap (λ y. Some y) M.lay) in
        let B = board_there (boards c) P.0 k P.1 in
        let T = canvas_other nodes nodes' boards boards' root c k n n' M F m P.0 B.0 B.1 (sym (ap (λ o. slice_get (keys_in o) P.0) B.1) ∙ P.1) in
        let u : Tree = record { sheet = T.sheet; boxes = join T.before (box_by (told nodes boards m) (Some n) T.behind) } in
        let v : Tree = record { sheet = T.sheet; boxes = join T.before (box_by (told nodes' boards' m) (Some n') T.behind) } in
        let H : HasOther (told nodes boards (depth_of (boards c) + suc m) root) (told nodes' boards' (depth_of (boards c) + suc m) root) u v =
        canvas_changes nodes nodes' boards boards' root F (depth_of (boards c)) (suc m) c u v B.0 (stays_changed nodes nodes' boards boards' c k n n' M) B.1 (sym (ap depth_of B.1)) T.was T.is in
        record {
          sheet = T.sheet;
          before = T.before;
          behind = T.behind;
          at = subst (λ d. HasOther (told nodes boards d root) (told nodes' boards' d root) u v) q H;
        }

-- the box has another cell and holds what it held
pub tree_refit : (nodes nodes' : ℕ → Option Node) (boards boards' : ℕ → Option Board) (root c k : ℕ) (n n' : Node) → HasBoxChanged nodes nodes' boards boards' c k n n' → n'.inner ≡ n.inner → IsForest nodes boards root
    → (u : Option Tree) × HasBoxOther (told nodes boards 257 root) (told nodes' boards' 257 root) (node_seen n).cell u (node_seen n').cell u
tree_refit nodes nodes' boards boards' root c k n n' M same F =
    let d = depth_of (boards c) in
    let lies : board_in (nodes k) ≡ Some c = ap board_in M.was ∙ ap (λ y. Some y) M.lay in
    let u = canvas_held nodes boards d n.inner in (
      u,
      subst (λ z. HasBoxOther (told nodes boards 257 root) (told nodes' boards' 257 root) (node_seen n).cell u (node_seen n').cell z)
          (ap (canvas_held nodes' boards' d) same ∙ held_same (256 - d) n.inner (λ j e. below_same nodes nodes' boards boards' root c k n n' M F (256 - d) k j lies (ap inner_in M.was ∙ e)))
          (tree_other nodes nodes' boards boards' root c k n n' M F),
    )
  where
    held_same : (m : ℕ) (i : Option ℕ) → ((j : ℕ) → i ≡ Some j → told nodes' boards' m j ≡ told nodes boards m j) → option_and_then (told nodes' boards' m) i ≡ option_and_then (told nodes boards m) i
    held_same m None h = refl
    held_same m (Some j) h = h j refl

-- the box has a canvas without boxes
pub tree_opened : (nodes nodes' : ℕ → Option Node) (boards boards' : ℕ → Option Board) (root k j : ℕ) (n : Node) (b : Board) → HasCanvasMore nodes nodes' boards boards' k j n b → IsForest nodes boards root
    → HasBoxOther (told nodes boards 257 root) (told nodes' boards' 257 root) (node_seen n).cell None (node_seen n).cell (Some (record { sheet = b.sheet; boxes = Done }))
tree_opened nodes nodes' boards boards' root k j n b M F =
    let d = depth_of (boards n.board) in
    let C : HasBoxChanged nodes nodes' boards boards' n.board k n (with_inner j n) = record {
      was = M.was;
      is = M.is;
      lay = refl;
      lies = refl;
      others = M.others;
      stay = λ x live. M.stay x (λ e. some_not_none (boards x) live (ap boards e ∙ M.vacant));
    } in
    let T = tree_other nodes nodes' boards boards' root n.board k n (with_inner j n) C F in
    let bare : canvas_held nodes boards d n.inner ≡ None = ap (canvas_held nodes boards d) M.bare in
    let level : 256 - d ≡ suc (255 - d) = (let p = M.low in let q = M.deeper in omega (arith, p, q)) in
    let full : canvas_held nodes' boards' d (Some j) ≡ Some (record { sheet = b.sheet; boxes = Done }) =
    ap (λ m. told nodes' boards' m j) level ∙ told_suc nodes' boards' (255 - d) j ∙ canvas_keys nodes' (told nodes' boards' (255 - d)) (boards' j) b b.sheet [] M.opened refl M.empty in
    let one = subst (λ z. HasBoxOther (told nodes boards 257 root) (told nodes' boards' 257 root) (node_seen n).cell z (node_seen n).cell (canvas_held nodes' boards' d (Some j))) bare T in
    subst (λ z. HasBoxOther (told nodes boards 257 root) (told nodes' boards' 257 root) (node_seen n).cell None (node_seen n).cell z) full one
