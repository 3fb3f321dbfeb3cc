-- What changes inside one canvas changes the tree at that place.
use Rattle.std.proofs.Common.{◌≡◌, ◌≢◌, ℕ, zero, suc, ◌+◌, ◌<◌, List, [], ◌∷◌, Option, Some, None, IsSome, refl, sym, ap, ◌∙◌, subst, arith}
use Rattle.std.specs.Prelude.{option_and_then, slice_get}
use Rattle.std.proofs.lemmas.Option.{none-some, same_Some}
use Rattle.pd_tree.specs.declared.rows.Sheet.{Sheet}
use Rattle.pd_tree.specs.Trees.{Cell, Trees, Done, Holder, Tree, join}
use Rattle.pd_grove.specs.declared.nodes.Node.{Node}
use Rattle.pd_grove.specs.declared.boards.Board.{Board}
use Rattle.pd_grove.specs.Standing.{node_seen, depth_of}
use Rattle.pd_grove.specs.Telling.{inner_in, keys_in}
use Rattle.pd_grove.specs.Owning.{board_in}
use Rattle.pd_grove.specs.Forest.{holder_in, IsForest, box_before, box_by, boxes_by, canvas_by, told, Nest, Alone, Inside, nested, around, out_of, LiesIn, StaysAround, HasOther}
use Rattle.pd_grove.specs.Grafts.{LiesInBox}
use Rattle.pd_grove.proofs.ForestLemmas.{told_zero, told_suc, held_there}

-- the canvas around the one in a box is that of the box
pub around_is : (nodes : ℕ → Option Node) (boards : ℕ → Option Board) (root : ℕ) → IsForest nodes boards root → (k x j : ℕ) → board_in (nodes k) ≡ Some x → inner_in (nodes k) ≡ Some j
    → around nodes boards j ≡ Some x
around_is nodes boards root F k x j lies holds = ap (option_and_then (λ y. board_in (nodes y))) (F.inside k j holds) ∙ lies

record IsAround (nodes : ℕ → Option Node) (boards : ℕ → Option Board) (j x : ℕ) : Type 0 where
  box_key : ℕ
  holder : holder_in (boards j) ≡ Some box_key
  lies : board_in (nodes box_key) ≡ Some x

around_by : (nodes : ℕ → Option Node) (boards : ℕ → Option Board) (j x : ℕ) (o : Option ℕ) → holder_in (boards j) ≡ o → option_and_then (λ y. board_in (nodes y)) o ≡ Some x → IsAround nodes boards j x
around_by nodes boards j x None e h = absurd (none-some x h)
around_by nodes boards j x (Some k) e h = record { box_key = k; holder = e; lies = h }

pub around_deep : (nodes : ℕ → Option Node) (boards : ℕ → Option Board) (root : ℕ) → IsForest nodes boards root → (j x : ℕ) → around nodes boards j ≡ Some x → depth_of (boards j) ≡ depth_of (boards x) + 1
around_deep nodes boards root F j x h =
    let A = around_by nodes boards j x (holder_in (boards j)) refl h in
    F.deeper A.box_key x j A.lies (F.held j A.box_key A.holder)

-- who lies in a canvas lies deeper
pub lies_deep : (nodes : ℕ → Option Node) (boards : ℕ → Option Board) (root : ℕ) → IsForest nodes boards root → (m x c : ℕ) → out_of nodes boards m x ≡ Some c → depth_of (boards x) ≡ depth_of (boards c) + m
lies_deep nodes boards root F zero x c h = (let q = ap (λ y. depth_of (boards y)) (same_Some x c h) in omega (arith, q))
lies_deep nodes boards root F (suc m) x c h = by (λ y. lies_deep nodes boards root F m x y) (out_of nodes boards m x) refl h
  where
    by : ((y : ℕ) → out_of nodes boards m x ≡ Some y → depth_of (boards x) ≡ depth_of (boards y) + m) → (o : Option ℕ) → out_of nodes boards m x ≡ o → option_and_then (around nodes boards) o ≡ Some c
        → depth_of (boards x) ≡ depth_of (boards c) + suc m
    by P None e h' = absurd (none-some c h')
    by P (Some y) e h' = (let p = P y e in let q = around_deep nodes boards root F y c h' in omega (arith, p, q))

-- the way out begins with the canvas around
pub out_first : (nodes : ℕ → Option Node) (boards : ℕ → Option Board) (m j x : ℕ) → around nodes boards j ≡ Some x → out_of nodes boards (suc m) j ≡ out_of nodes boards m x
out_first nodes boards zero j x h = h
out_first nodes boards (suc m) j x h = ap (option_and_then (around nodes boards)) (out_first nodes boards m j x h)

-- neither of two canvases lies in the other
pub record AreApart (nodes : ℕ → Option Node) (boards : ℕ → Option Board) (c x : ℕ) : Type 0 where
  pub inner : LiesIn nodes boards c x → ⊥
  pub outer : LiesIn nodes boards x c → ⊥

apart_below : (nodes : ℕ → Option Node) (boards : ℕ → Option Board) (c x j : ℕ) → AreApart nodes boards c x → around nodes boards j ≡ Some x → AreApart nodes boards c j
apart_below nodes boards c x j A h = record {
  inner = λ p. not_in p.0 p.1;
  outer = λ p. A.outer (suc p.0, ap (option_and_then (around nodes boards)) p.1 ∙ h);
}
  where
    not_in : (m : ℕ) → out_of nodes boards m j ≡ Some c → ⊥
    not_in zero e = A.outer (suc zero, ap (around nodes boards) (sym (same_Some j c e)) ∙ h)
    not_in (suc m) e = A.inner (m, sym (out_first nodes boards m j x h) ∙ e)

box_same : (inside inside' : ℕ → Option Tree) (o : Option Node) (rest : Trees) → ((j : ℕ) → inner_in o ≡ Some j → inside' j ≡ inside j) → box_by inside' o rest ≡ box_by inside o rest
box_same inside inside' None rest h = refl
box_same inside inside' (Some n) rest h = ap (λ t. box_before (node_seen n).cell t rest) (by n.inner refl)
  where
    by : (i : Option ℕ) → n.inner ≡ i → option_and_then inside' i ≡ option_and_then inside i
    by None e = refl
    by (Some j) e = h j e

-- boxes tell the same where they stay, and the canvases in them tell the same
pub boxes_same : (nodes nodes' : ℕ → Option Node) (inside inside' : ℕ → Option Tree) (ks : List ℕ) → ((i k : ℕ) → slice_get ks i ≡ Some k → nodes' k ≡ nodes k)
    → ((i k j : ℕ) → slice_get ks i ≡ Some k → inner_in (nodes k) ≡ Some j → inside' j ≡ inside j) → boxes_by nodes' inside' ks ≡ boxes_by nodes inside ks
boxes_same nodes nodes' inside inside' [] N I = refl
boxes_same nodes nodes' inside inside' (k ∷ ks) N I =
    ap (λ o. box_by inside' o (boxes_by nodes' inside' ks)) (N zero k refl)
    ∙ ap (box_by inside' (nodes k)) (boxes_same nodes nodes' inside inside' ks (λ i. N (suc i)) (λ i. I (suc i)))
    ∙ box_same inside inside' (nodes k) (boxes_by nodes inside ks) (λ j. I zero k j refl)

-- a canvas apart from the one that changes tells what it told
pub apart_same : (nodes nodes' : ℕ → Option Node) (boards boards' : ℕ → Option Board) (root c : ℕ) → IsForest nodes boards root → StaysAround nodes nodes' boards boards' c
    → (n x : ℕ) (b : Board) → boards x ≡ Some b → AreApart nodes boards c x → told nodes' boards' n x ≡ told nodes boards n x
apart_same nodes nodes' boards boards' root c F S zero x b e A = told_zero nodes' boards' x ∙ sym (told_zero nodes boards x)
apart_same nodes nodes' boards boards' root c F S (suc n) x b e A =
    let home : (i k : ℕ) → slice_get b.nodes.items i ≡ Some k → board_in (nodes k) ≡ Some x = (λ i k h. F.own.home x i k (ap (λ o. slice_get (keys_in o) i) e ∙ h)) in
    told_suc nodes' boards' n x
    ∙ ap (canvas_by nodes' (told nodes' boards' n)) (S.boards_stay x (subst (λ o. IsSome o) (sym e) refl) A.inner ∙ e)
    ∙ ap (λ t. Some (record { sheet = b.sheet; boxes = t }))
    (boxes_same nodes nodes' (told nodes boards n) (told nodes' boards' n) b.nodes.items (λ i k h. S.nodes_stay k x (home i k h) A.inner)
    (λ i k j h q. let H = held_there (boards j) k (F.inside k j q) in apart_same nodes nodes' boards boards' root c F S n j H.board H.is (apart_below nodes boards c x j A (around_is nodes boards root F k x j (home i k h) q))))
    ∙ ap (canvas_by nodes (told nodes boards n)) (sym e)
    ∙ sym (told_suc nodes boards n x)

-- boxes before others
box_join : (c : Cell) (o : Option Tree) (a b : Trees) → box_before c o (join a b) ≡ join (box_before c o a) b
box_join c None a b = refl
box_join c (Some u) a b = refl

pub by_join : (inside : ℕ → Option Tree) (o : Option Node) (a b : Trees) → box_by inside o (join a b) ≡ join (box_by inside o a) b
by_join inside None a b = refl
by_join inside (Some n) a b = box_join (node_seen n).cell (option_and_then inside n.inner) a b

-- one box among others holds another canvas than before
pub record HoldsOther (old new : Trees) (u u' : Tree) : Type 0 where
  pub before : Trees
  pub cell : Cell
  pub behind : Trees
  pub was : old ≡ join before (Holder cell u.sheet u.boxes behind)
  pub is : new ≡ join before (Holder cell u'.sheet u'.boxes behind)

holds_other : (inside inside' : ℕ → Option Tree) (k c : ℕ) (u u' : Tree) (o : Option Node) (rest : Trees) → inner_in o ≡ Some c → inside c ≡ Some u → inside' c ≡ Some u'
    → HoldsOther (box_by inside o rest) (box_by inside' o rest) u u'
holds_other inside inside' k c u u' None rest h e e' = absurd (none-some c h)
holds_other inside inside' k c u u' (Some n) rest h e e' = record {
  before = Done;
  cell = (node_seen n).cell;
  behind = rest;
  was = ap (λ i. box_before (node_seen n).cell (option_and_then inside i) rest) h ∙ ap (λ t. box_before (node_seen n).cell t rest) e;
  is = ap (λ i. box_before (node_seen n).cell (option_and_then inside' i) rest) h ∙ ap (λ t. box_before (node_seen n).cell t rest) e';
}

-- of the boxes of a canvas, that of a number holds the canvas that changes
one_other : (nodes nodes' : ℕ → Option Node) (inside inside' : ℕ → Option Tree) (c : ℕ) (u u' : Tree) → inside c ≡ Some u → inside' c ≡ Some u' → (ks : List ℕ) (i k : ℕ) → slice_get ks i ≡ Some k
    → inner_in (nodes k) ≡ Some c → ((m l : ℕ) → slice_get ks m ≡ Some l → nodes' l ≡ nodes l)
    → ((m l j : ℕ) → m ≢ i → slice_get ks m ≡ Some l → inner_in (nodes l) ≡ Some j → inside' j ≡ inside j)
    → HoldsOther (boxes_by nodes inside ks) (boxes_by nodes' inside' ks) u u'
one_other nodes nodes' inside inside' c u u' e e' [] zero k h holds N I = absurd (none-some k h)
one_other nodes nodes' inside inside' c u u' e e' [] (suc i) k h holds N I = absurd (none-some k h)
one_other nodes nodes' inside inside' c u u' e e' (x ∷ ks) zero k h holds N I =
    let rest = boxes_by nodes inside ks in
    let R = holds_other inside inside' x c u u' (nodes x) rest (ap (λ y. inner_in (nodes y)) (same_Some x k h) ∙ holds) e e' in
    record {
      before = R.before;
      cell = R.cell;
      behind = R.behind;
      was = R.was;
      is = ap (λ o. box_by inside' o (boxes_by nodes' inside' ks)) (N zero x refl)
          ∙ ap (box_by inside' (nodes x)) (boxes_same nodes nodes' inside inside' ks (λ m. N (suc m)) (λ m l j. I (suc m) l j (λ q. absurd (omega (arith, q))))) ∙ R.is;
    }
one_other nodes nodes' inside inside' c u u' e e' (x ∷ ks) (suc i) k h holds N I =
    let R = one_other nodes nodes' inside inside' c u u' e e' ks i k h holds (λ m. N (suc m)) (λ m l j d. I (suc m) l j (λ q. d (omega (arith, q)))) in
    record {
      before = box_by inside (nodes x) R.before;
      cell = R.cell;
      behind = R.behind;
      was = ap (box_by inside (nodes x)) R.was ∙ by_join inside (nodes x) R.before (Holder R.cell u.sheet u.boxes R.behind);
      is = ap (λ o. box_by inside' o (boxes_by nodes' inside' ks)) (N zero x refl)
          ∙ box_same inside inside' (nodes x) (boxes_by nodes' inside' ks) (λ j. I zero x j (λ q. absurd (omega (arith, q))) refl)
          ∙ ap (box_by inside (nodes x)) R.is ∙ by_join inside (nodes x) R.before (Holder R.cell u'.sheet u'.boxes R.behind);
    }

-- a nest with a canvas more around its hole
abbrev pub deeper_nest : Sheet → Trees → Cell → Trees → Nest → Nest
deeper_nest s before c behind Alone = Inside s before c Alone behind
deeper_nest s before c behind (Inside r b x nest a) = Inside r b x (deeper_nest s before c behind nest) a

pub nested_deeper : (s : Sheet) (before : Trees) (c : Cell) (behind : Trees) (nest : Nest) (t : Tree)
    → nested (deeper_nest s before c behind nest) t ≡ nested nest (record { sheet = s; boxes = join before (Holder c t.sheet t.boxes behind) })
nested_deeper s before c behind Alone t = refl
nested_deeper s before c behind (Inside r b x nest a) t =
    ap (λ (z : Tree). record { sheet = r; boxes = join b (Holder x z.sheet z.boxes a) }) (nested_deeper s before c behind nest t)

pub board_there : (o : Option Board) (i k : ℕ) → slice_get (keys_in o) i ≡ Some k → (b : Board) × (o ≡ Some b)
board_there None zero k h = absurd (none-some k h)
board_there None (suc i) k h = absurd (none-some k h)
board_there (Some b) i k h = (b, refl)

pub node_there : (o : Option Node) (c : ℕ) → inner_in o ≡ Some c → (n : Node) × (o ≡ Some n)
node_there None c h = absurd (none-some c h)
node_there (Some n) c h = (n, refl)

-- the canvases of two boxes of one canvas are apart
siblings_apart : (nodes : ℕ → Option Node) (boards : ℕ → Option Board) (root : ℕ) → IsForest nodes boards root → (x k l c j : ℕ) → board_in (nodes k) ≡ Some x → board_in (nodes l) ≡ Some x
    → inner_in (nodes k) ≡ Some c → inner_in (nodes l) ≡ Some j → l ≢ k → AreApart nodes boards c j
siblings_apart nodes boards root F x k l c j lies also holds more other =
    let deep_c = F.deeper k x c lies holds in
    let deep_j = F.deeper l x j also more in
    let differ : j ≢ c = (λ q. other (same_Some l k (sym (F.inside l j more) ∙ ap (λ y. holder_in (boards y)) q ∙ F.inside k c holds))) in
    record {
      inner = λ p. differ (level p.0 j c deep_j deep_c p.1);
      outer = λ p. differ (sym (level p.0 c j deep_c deep_j p.1));
    }
  where
    level : (m y z : ℕ) → depth_of (boards y) ≡ depth_of (boards x) + 1 → depth_of (boards z) ≡ depth_of (boards x) + 1 → out_of nodes boards m y ≡ Some z → y ≡ z
    level zero y z p q h = same_Some y z h
    level (suc m) y z p q h = (let r = lies_deep nodes boards root F (suc m) y z h in absurd (omega (arith, p, q, r)))

-- of the canvas around the one that changes, the box of that one alone tells something else
around_other : (nodes nodes' : ℕ → Option Node) (boards boards' : ℕ → Option Board) (root c : ℕ) → IsForest nodes boards root → StaysAround nodes nodes' boards boards' c
    → (n x k i : ℕ) (b : Board) (u u' : Tree) → board_in (nodes k) ≡ Some x → inner_in (nodes k) ≡ Some c → boards x ≡ Some b → slice_get b.nodes.items i ≡ Some k
    → told nodes boards n c ≡ Some u → told nodes' boards' n c ≡ Some u'
    → HoldsOther (boxes_by nodes (told nodes boards n) b.nodes.items) (boxes_by nodes' (told nodes' boards' n) b.nodes.items) u u'
around_other nodes nodes' boards boards' root c F S n x k i b u u' lies holds is at e e' =
    let ks = b.nodes.items in
    let back : (m l : ℕ) → slice_get ks m ≡ Some l → slice_get (keys_in (boards x)) m ≡ Some l = (λ m l h. ap (λ o. slice_get (keys_in o) m) is ∙ h) in
    let home : (m l : ℕ) → slice_get ks m ≡ Some l → board_in (nodes l) ≡ Some x = (λ m l h. F.own.home x m l (back m l h)) in
    let above : depth_of (boards c) ≡ depth_of (boards x) + 1 = F.deeper k x c lies holds in
    let out : LiesIn nodes boards c x → ⊥ = (λ p. let q = lies_deep nodes boards root F p.0 x c p.1 in absurd (omega (arith, q, above))) in
    one_other nodes nodes' (told nodes boards n) (told nodes' boards' n) c u u' e e' ks i k at holds
    (λ m l h. S.nodes_stay l x (home m l h) out)
    (λ m l j d h q. let H = held_there (boards j) l (F.inside l j q) in
    apart_same nodes nodes' boards boards' root c F S n j H.board H.is
    (siblings_apart nodes boards root F x k l c j lies (home m l h) holds q (λ same. d (F.own.once x m i k (back m l h ∙ ap (λ y. Some y) same) (back i k at)))))

-- what lies in c lies in the canvas around c
stays_around : (nodes nodes' : ℕ → Option Node) (boards boards' : ℕ → Option Board) (c x : ℕ) → around nodes boards c ≡ Some x → StaysAround nodes nodes' boards boards' c → StaysAround nodes nodes' boards boards' x
stays_around nodes nodes' boards boards' c x h S = record {
  boards_stay = λ y live no. S.boards_stay y live (λ p. no (suc p.0, ap (option_and_then (around nodes boards)) p.1 ∙ h));
  nodes_stay = λ k y lies no. S.nodes_stay k y lies (λ p. no (suc p.0, ap (option_and_then (around nodes boards)) p.1 ∙ h));
}

abbrev some_canvas : Sheet → Trees → Option Tree
some_canvas s t = Some (record { sheet = s; boxes = t })

canvas_is : (s : Sheet) (b x : Trees) → b ≡ x → some_canvas s b ≡ some_canvas s x
canvas_is s b x h = ap (some_canvas s) h

-- one canvas further out
further_out : (s : Sheet) (before : Trees) (c : Cell) (behind : Trees) (old new : Option Tree) (u u' : Tree)
    → HasOther old new (record { sheet = s; boxes = join before (Holder c u.sheet u.boxes behind) }) (record { sheet = s; boxes = join before (Holder c u'.sheet u'.boxes behind) }) → HasOther old new u u'
further_out s before c behind old new u u' H = record {
  nest = deeper_nest s before c behind H.nest;
  was = H.was ∙ ap (λ t. Some t) (sym (nested_deeper s before c behind H.nest u));
  is = H.is ∙ ap (λ t. Some t) (sym (nested_deeper s before c behind H.nest u'));
}

-- a canvas that tells something else, and all that lives outside it stays: the tree is as it was but for that canvas
pub canvas_changes : (nodes nodes' : ℕ → Option Node) (boards boards' : ℕ → Option Board) (root : ℕ) → IsForest nodes boards root → (d n c : ℕ) (u u' : Tree) (b : Board)
    → StaysAround nodes nodes' boards boards' c → boards c ≡ Some b → b.depth ≡ d → told nodes boards n c ≡ Some u → told nodes' boards' n c ≡ Some u'
    → HasOther (told nodes boards (d + n) root) (told nodes' boards' (d + n) root) u u'
canvas_changes nodes nodes' boards boards' root F zero n c u u' b S is depth e e' = by b.holder refl
  where
    by : (o : Option ℕ) → b.holder ≡ o → HasOther (told nodes boards (zero + n) root) (told nodes' boards' (zero + n) root) u u'
    by None h =
        let q : c ≡ root = F.alone c (subst (λ o. IsSome o) (sym is) refl) (ap holder_in is ∙ h) in
        let z : n ≡ zero + n = omega arith in
        record {
          nest = Alone;
          was = ap (λ m. told nodes boards m root) (sym z) ∙ ap (told nodes boards n) (sym q) ∙ e;
          is = ap (λ m. told nodes' boards' m root) (sym z) ∙ ap (told nodes' boards' n) (sym q) ∙ e';
        }
    by (Some k) h =
        let holds = F.held c k (ap holder_in is ∙ h) in
        let B = node_there (nodes k) c holds in
        let q = F.deeper k B.0.board c (ap board_in B.1) holds in
        let r = ap depth_of is in
        absurd (omega (arith, q, r, depth))
canvas_changes nodes nodes' boards boards' root F (suc d) n c u u' b S is depth e e' =
    by (λ x v v' b'. canvas_changes nodes nodes' boards boards' root F d (suc n) x v v' b') b.holder refl
  where
    by : ((x : ℕ) (v v' : Tree) (b' : Board) → StaysAround nodes nodes' boards boards' x → boards x ≡ Some b' → b'.depth ≡ d → told nodes boards (suc n) x ≡ Some v → told nodes' boards' (suc n) x ≡ Some v'
        → HasOther (told nodes boards (d + suc n) root) (told nodes' boards' (d + suc n) root) v v') → (o : Option ℕ) → b.holder ≡ o → HasOther (told nodes boards (suc d + n) root) (told nodes' boards' (suc d + n) root) u u'
    by C None h =
        let q : c ≡ root = F.alone c (subst (λ o. IsSome o) (sym is) refl) (ap holder_in is ∙ h) in
        let r : b.depth ≡ 0 = sym (ap depth_of is) ∙ ap (λ y. depth_of (boards y)) q ∙ F.rooted.2 in
        absurd (omega (arith, r, depth))
    by C (Some k) h =
        let holds = F.held c k (ap holder_in is ∙ h) in
        let N = node_there (nodes k) c holds in
        let x = N.0.board in
        let lies : board_in (nodes k) ≡ Some x = ap board_in N.1 in
        let P = F.placed k x lies in
        let B = board_there (boards x) P.0 k P.1 in
        let at : slice_get B.0.nodes.items P.0 ≡ Some k = sym (ap (λ o. slice_get (keys_in o) P.0) B.1) ∙ P.1 in
        let around_c : around nodes boards c ≡ Some x = around_is nodes boards root F k x c lies holds in
        let above : depth_of (boards c) ≡ depth_of (boards x) + 1 = F.deeper k x c lies holds in
        let own : depth_of (boards c) ≡ b.depth = ap depth_of is in
        let its : depth_of (boards x) ≡ B.0.depth = ap depth_of B.1 in
        let out : LiesIn nodes boards c x → ⊥ = (λ p. let q = lies_deep nodes boards root F p.0 x c p.1 in absurd (omega (arith, q, above))) in
        let O = around_other nodes nodes' boards boards' root c F S n x k P.0 B.0 u u' lies holds B.1 at e e' in
        let stay : boards' x ≡ Some B.0 = S.boards_stay x (subst (λ o. IsSome o) (sym B.1) refl) out ∙ B.1 in
        let with : Tree → Tree = (λ (t : Tree). record { sheet = B.0.sheet; boxes = join O.before (Holder O.cell t.sheet t.boxes O.behind) }) in
        let was : told nodes boards (suc n) x ≡ Some (with u) =
        told_suc nodes boards n x ∙ ap (canvas_by nodes (told nodes boards n)) B.1 ∙ canvas_is B.0.sheet (boxes_by nodes (told nodes boards n) B.0.nodes.items) (join O.before (Holder O.cell u.sheet u.boxes O.behind)) O.was in
        let now : told nodes' boards' (suc n) x ≡ Some (with u') =
        told_suc nodes' boards' n x ∙ ap (canvas_by nodes' (told nodes' boards' n)) stay ∙ canvas_is B.0.sheet (boxes_by nodes' (told nodes' boards' n) B.0.nodes.items) (join O.before (Holder O.cell u'.sheet u'.boxes O.behind)) O.is in
        let H = C x (with u) (with u') B.0 (stays_around nodes nodes' boards boards' c x around_c S) B.1 (omega (arith, above, own, its, depth)) was now in
        let z : d + suc n ≡ suc d + n = omega arith in
        further_out B.0.sheet O.before O.cell O.behind (told nodes boards (suc d + n) root) (told nodes' boards' (suc d + n) root) u u'
        (subst (λ m. HasOther (told nodes boards m root) (told nodes' boards' m root) (with u) (with u')) z H)

-- what lies in a box is deeper than the box's canvas
pub box_deep : (nodes : ℕ → Option Node) (boards : ℕ → Option Board) (root k c x : ℕ) → IsForest nodes boards root → board_in (nodes k) ≡ Some c → LiesInBox nodes boards k x → depth_of (boards c) < depth_of (boards x)
box_deep nodes boards root k c x F lies L =
    let p = F.deeper k c L.0 lies L.1 in
    let q = lies_deep nodes boards root F L.2.0 x L.0 L.2.1 in
    omega (arith, p, q)
