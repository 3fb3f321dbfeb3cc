-- What a forest tells stands.
use Rattle.std.proofs.Common.{◌≡◌, ℕ, zero, suc, ◌+◌, ◌≤◌, List, [], ◌∷◌, Option, Some, None, IsSome, refl, sym, ap, ◌∙◌, subst, arith}
use Rattle.std.specs.Prelude.{option_map, option_and_then, slice_get}
use Rattle.std.proofs.lemmas.Option.{none-some, same_Some}
use Rattle.slab.specs.Slab.{get}
use Rattle.pd_tree.specs.declared.rows.Sheet.{Sheet}
use Rattle.pd_tree.specs.Trees.{Trees, Done, Leaf, Holder, Tree}
use Rattle.pd_grove.specs.declared.nodes.Node.{Node}
use Rattle.pd_grove.specs.declared.boards.Board.{Board}
use Rattle.pd_grove.specs.declared.grove.Grove.{Grove}
use Rattle.pd_grove.specs.Standing.{NodeSeen, node_seen, BoardSeen, board_seen, depth_of, Stands, GroveStands}
use Rattle.pd_grove.specs.Telling.{inner_in, keys_in}
use Rattle.pd_grove.specs.Owning.{board_in}
use Rattle.pd_grove.specs.Forest.{holder_in, IsForest, box_before, box_by, boxes_by, canvas_by, told, tree_of}

pub told_suc : (nodes : ℕ → Option Node) (boards : ℕ → Option Board) (n c : ℕ) → told nodes boards (suc n) c ≡ canvas_by nodes (told nodes boards n) (boards c)
unfolding told
told_suc nodes boards n c = refl

pub told_zero : (nodes : ℕ → Option Node) (boards : ℕ → Option Board) (c : ℕ) → told nodes boards zero c ≡ None
unfolding told
told_zero nodes boards c = refl

-- what lies in a canvas is there
pub record IsBox (o : Option Node) (c : ℕ) : Type 0 where
  pub node : Node
  pub is : o ≡ Some node
  pub lies : node.board ≡ c

pub box_there : (o : Option Node) (c : ℕ) → board_in o ≡ Some c → IsBox o c
box_there None c h = absurd (none-some c h)
box_there (Some n) c h = record { node = n; is = refl; lies = same_Some n.board c h }

-- a canvas in a box is there
pub record IsHeld (o : Option Board) (k : ℕ) : Type 0 where
  pub board : Board
  pub is : o ≡ Some board
  pub by : board.holder ≡ Some k

pub held_there : (o : Option Board) (k : ℕ) → holder_in o ≡ Some k → IsHeld o k
held_there None k h = absurd (none-some k h)
held_there (Some b) k h = record { board = b; is = refl; by = h }

pub live_board : (o : Option Board) → IsSome o → (b : Board) × (o ≡ Some b)
live_board None h = absurd (cc)
live_board (Some b) h = (b, refl)

-- the canvas of a key is told and stands
pub record IsTold (nodes : ℕ → Option Node) (boards : ℕ → Option Board) (inside : ℕ → Option Tree) (j d : ℕ) (b : Board) : Type 0 where
  pub tree : Tree
  pub is : inside j ≡ Some tree
  pub sheet : tree.sheet ≡ b.sheet
  pub stands : Stands nodes boards j d b.nodes.items tree.boxes

node_is : (x : Node) (c : ℕ) (i : Option ℕ) (o : Option Node) → o ≡ Some x → x.board ≡ c → x.inner ≡ i
    → option_map node_seen o ≡ Some (record { board = c; cell = (node_seen x).cell; inner = i })
node_is x c i o e b h =
    ap (option_map node_seen) e
    ∙ ap (λ (y : ℕ). Some (record { board = y; cell = (node_seen x).cell; inner = x.inner })) b
    ∙ ap (λ (y : Option ℕ). Some (record { board = c; cell = (node_seen x).cell; inner = y })) h

board_is : (b : Board) (k d : ℕ) (s : Sheet) (o : Option Board) → o ≡ Some b → b.holder ≡ Some k → b.depth ≡ d → s ≡ b.sheet
    → option_map board_seen o ≡ Some (record { holder = Some k; depth = d; sheet = s; keys = b.nodes.items })
board_is b k d s o e h q t =
    ap (option_map board_seen) e
    ∙ ap (λ (y : Option ℕ). Some (record { holder = y; depth = b.depth; sheet = b.sheet; keys = b.nodes.items })) h
    ∙ ap (λ (y : ℕ). Some (record { holder = Some k; depth = y; sheet = b.sheet; keys = b.nodes.items })) q
    ∙ ap (λ (y : Sheet). Some (record { holder = Some k; depth = d; sheet = y; keys = b.nodes.items })) (sym t)

box_stands : (nodes : ℕ → Option Node) (boards : ℕ → Option Board) (root : ℕ) → IsForest nodes boards root → (inside : ℕ → Option Tree) (c d k : ℕ) (ks : List ℕ) (rest : Trees)
    → depth_of (boards c) ≡ d → ((j : ℕ) (b : Board) → boards j ≡ Some b → b.depth ≡ d + 1 → IsTold nodes boards inside j (d + 1) b)
    → (x : Node) → nodes k ≡ Some x → x.board ≡ c → (i : Option ℕ) → x.inner ≡ i → Stands nodes boards c d ks rest
    → Stands nodes boards c d (k ∷ ks) (box_before (node_seen x).cell (option_and_then inside i) rest)
box_stands nodes boards root F inside c d k ks rest D P x e lies None h S = (node_is x c None (nodes k) e lies h, S)
box_stands nodes boards root F inside c d k ks rest D P x e lies (Some j) h S =
    let in_c : board_in (nodes k) ≡ Some c = ap board_in e ∙ ap (λ y. Some y) lies in
    let holds : inner_in (nodes k) ≡ Some j = ap inner_in e ∙ h in
    let H = held_there (boards j) k (F.inside k j holds) in
    let depth : H.board.depth ≡ d + 1 = sym (ap depth_of H.is) ∙ F.deeper k c j in_c holds ∙ ap (λ y. y + 1) D in
    let T = P j H.board H.is depth in
    subst (λ o. Stands nodes boards c d (k ∷ ks) (box_before (node_seen x).cell o rest)) (sym T.is)
    (j, H.board.nodes.items, node_is x c (Some j) (nodes k) e lies h, board_is H.board k (d + 1) T.tree.sheet (boards j) H.is H.by depth T.sheet, T.stands, S)

keys_stand : (nodes : ℕ → Option Node) (boards : ℕ → Option Board) (root : ℕ) → IsForest nodes boards root → (inside : ℕ → Option Tree) (c d : ℕ) (ks : List ℕ)
    → depth_of (boards c) ≡ d → ((j : ℕ) (b : Board) → boards j ≡ Some b → b.depth ≡ d + 1 → IsTold nodes boards inside j (d + 1) b)
    → ((i k : ℕ) → slice_get ks i ≡ Some k → board_in (nodes k) ≡ Some c) → Stands nodes boards c d ks (boxes_by nodes inside ks)
keys_stand nodes boards root F inside c d [] D P home = tt
keys_stand nodes boards root F inside c d (k ∷ ks) D P home =
    let B = box_there (nodes k) c (home zero k refl) in
    let rest = boxes_by nodes inside ks in
    subst (λ o. Stands nodes boards c d (k ∷ ks) (box_by inside o rest)) (sym B.is)
    (box_stands nodes boards root F inside c d k ks rest D P B.node B.is B.lies B.node.inner refl (keys_stand nodes boards root F inside c d ks D P (λ i. home (suc i))))

-- a canvas tells what stands under its keys
pub canvas_told : (nodes : ℕ → Option Node) (boards : ℕ → Option Board) (root : ℕ) → IsForest nodes boards root → (n c : ℕ) (b : Board) → boards c ≡ Some b → 257 ≤ n + b.depth
    → IsTold nodes boards (told nodes boards n) c b.depth b
canvas_told nodes boards root F zero c b e low = (let s = F.shallow c in let q = ap depth_of e in absurd (omega (arith, low, s, q)))
canvas_told nodes boards root F (suc n) c b e low =
    let home : (i k : ℕ) → slice_get b.nodes.items i ≡ Some k → board_in (nodes k) ≡ Some c = (λ i k h. F.own.home c i k (ap (λ o. slice_get (keys_in o) i) e ∙ h)) in
    record {
      tree = record { sheet = b.sheet; boxes = boxes_by nodes (told nodes boards n) b.nodes.items };
      is = told_suc nodes boards n c ∙ ap (canvas_by nodes (told nodes boards n)) e;
      sheet = refl;
      stands = keys_stand nodes boards root F (told nodes boards n) c b.depth b.nodes.items (ap depth_of e)
          (λ j b' e' q. subst (λ d. IsTold nodes boards (told nodes boards n) j d b') q (canvas_told nodes boards root F n j b' e' (omega (arith, low, q)))) home;
    }

same_node : (o : Option Node) (x y : NodeSeen) → option_map node_seen o ≡ Some x → option_map node_seen o ≡ Some y → x ≡ y
same_node o x y h k = same_Some x y (sym h ∙ k)

same_board : (o : Option Board) (x y : BoardSeen) → option_map board_seen o ≡ Some x → option_map board_seen o ≡ Some y → x ≡ y
same_board o x y h k = same_Some x y (sym h ∙ k)

-- one tree stands under keys
pub stands_once : (nodes : ℕ → Option Node) (boards : ℕ → Option Board) (c d : ℕ) (ks : List ℕ) (t u : Trees) → Stands nodes boards c d ks t → Stands nodes boards c d ks u → t ≡ u
stands_once nodes boards c d [] Done Done S T = refl
stands_once nodes boards c d [] Done (Leaf x rest) S T = absurd T
stands_once nodes boards c d [] Done (Holder x s inner rest) S T = absurd T
stands_once nodes boards c d [] (Leaf x rest) u S T = absurd S
stands_once nodes boards c d [] (Holder x s inner rest) u S T = absurd S
stands_once nodes boards c d (k ∷ ks) Done u S T = absurd S
stands_once nodes boards c d (k ∷ ks) (Leaf x rest) Done S T = absurd T
stands_once nodes boards c d (k ∷ ks) (Leaf x rest) (Leaf y more) S T =
    let q = same_node (nodes k) _ _ S.0 T.0 in
    ap (λ (z : NodeSeen). Leaf z.cell rest) q ∙ ap (Leaf y) (stands_once nodes boards c d ks rest more S.1 T.1)
stands_once nodes boards c d (k ∷ ks) (Leaf x rest) (Holder y s inner more) S T =
    absurd (none-some T.0 (ap (λ (z : NodeSeen). z.inner) (same_node (nodes k) _ _ S.0 T.2)))
stands_once nodes boards c d (k ∷ ks) (Holder x s inner rest) Done S T = absurd T
stands_once nodes boards c d (k ∷ ks) (Holder x s inner rest) (Leaf y more) S T =
    absurd (none-some S.0 (ap (λ (z : NodeSeen). z.inner) (same_node (nodes k) _ _ T.0 S.2)))
stands_once nodes boards c d (k ∷ ks) (Holder x s inner rest) (Holder y r other more) S T =
    let q = same_node (nodes k) _ _ S.2 T.2 in
    let j : S.0 ≡ T.0 = same_Some S.0 T.0 (ap (λ (z : NodeSeen). z.inner) q) in
    let p = same_board (boards T.0) _ _ (sym (ap (λ z. option_map board_seen (boards z)) j) ∙ S.3) T.3 in
    let below : Stands nodes boards T.0 (d + 1) T.1 inner =
    (let moved : Stands nodes boards T.0 (d + 1) S.1 inner = subst (λ z. Stands nodes boards z (d + 1) S.1 inner) j S.4 in
    subst (λ z. Stands nodes boards T.0 (d + 1) z inner) (ap (λ (z : BoardSeen). z.keys) p) moved) in
    ap (λ (z : NodeSeen). Holder z.cell s inner rest) q
    ∙ ap (λ (z : BoardSeen). Holder y z.sheet inner rest) p
    ∙ ap (λ z. Holder y r z rest) (stands_once nodes boards T.0 (d + 1) T.1 inner other below T.4)
    ∙ ap (Holder y r other) (stands_once nodes boards c d ks rest more S.5 T.5)

pub forest_stands : (g : Grove) → IsForest (get g.nodes) (get g.boards) g.root → (t : Tree) × (tree_of g ≡ Some t) × GroveStands g t.sheet t.boxes
forest_stands g F =
    let L = live_board (get g.boards g.root) F.rooted.0 in
    let holds : L.0.holder ≡ None = sym (ap holder_in L.1) ∙ F.rooted.1 in
    let deep : L.0.depth ≡ 0 = sym (ap depth_of L.1) ∙ F.rooted.2 in
    let T = canvas_told (get g.nodes) (get g.boards) g.root F 257 g.root L.0 L.1 (omega arith) in (
      T.tree,
      T.is,
      record {
        keys = L.0.nodes.items;
        root = root_is L.0 T.tree.sheet (get g.boards g.root) L.1 holds deep T.sheet;
        stands = subst (λ d. Stands (get g.nodes) (get g.boards) g.root d L.0.nodes.items T.tree.boxes) deep T.stands;
      },
    )
  where
    root_is : (b : Board) (s : Sheet) (o : Option Board) → o ≡ Some b → b.holder ≡ None → b.depth ≡ 0 → s ≡ b.sheet
        → option_map board_seen o ≡ Some (record { holder = None; depth = 0; sheet = s; keys = b.nodes.items })
    root_is b s o e h q t =
        ap (option_map board_seen) e
        ∙ ap (λ (y : Option ℕ). Some (record { holder = y; depth = b.depth; sheet = b.sheet; keys = b.nodes.items })) h
        ∙ ap (λ (y : ℕ). Some (record { holder = None; depth = y; sheet = b.sheet; keys = b.nodes.items })) q
        ∙ ap (λ (y : Sheet). Some (record { holder = None; depth = 0; sheet = y; keys = b.nodes.items })) (sym t)

pub stands_told : (g : Grove) (s : Sheet) (t : Trees) → IsForest (get g.nodes) (get g.boards) g.root → GroveStands g s t → tree_of g ≡ Some (record { sheet = s; boxes = t })
stands_told g s t F G =
    let O = forest_stands g F in
    let q = same_board (get g.boards g.root) _ _ O.2.root G.root in
    let moved = subst (λ ks. Stands (get g.nodes) (get g.boards) g.root 0 ks O.0.boxes) (ap (λ (z : BoardSeen). z.keys) q) O.2.stands in
    let boxes = stands_once (get g.nodes) (get g.boards) g.root 0 G.keys O.0.boxes t moved G.stands in
    O.1 ∙ ap (λ (z : BoardSeen). Some (record { sheet = z.sheet; boxes = O.0.boxes })) q ∙ ap (λ z. Some (record { sheet = s; boxes = z })) boxes

-- a canvas tells the boxes that stand in it
pub canvas_stood : (nodes : ℕ → Option Node) (boards : ℕ → Option Board) (root : ℕ) → IsForest nodes boards root → (n c : ℕ) (b : Board) (t : Trees) → boards c ≡ Some b → 257 ≤ n + b.depth
    → Stands nodes boards c b.depth b.nodes.items t → told nodes boards n c ≡ Some (record { sheet = b.sheet; boxes = t })
canvas_stood nodes boards root F n c b t e low S =
    let T = canvas_told nodes boards root F n c b e low in
    T.is ∙ ap (λ (s : Sheet). Some (record { sheet = s; boxes = T.tree.boxes })) T.sheet ∙ ap (λ z. Some (record { sheet = b.sheet; boxes = z })) (stands_once nodes boards c b.depth b.nodes.items T.tree.boxes t T.stands S)
