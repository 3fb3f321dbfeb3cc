-- A box that came and holds no canvas came alone.
use Rattle.std.proofs.Common.{◌≡◌, ◌≢◌, ℕ, zero, suc, ◌+◌, ◌≤◌, List, [], ◌∷◌, ◌++◌, length, Option, Some, None, IsSome, refl, sym, ap, ◌∙◌, subst, arith}
use Rattle.std.specs.Prelude.{slice_get, option_map, option_and_then}
use mathlib.Core.Logic.{⊎_elim}
use Rattle.std.proofs.lemmas.Option.{none-some, same_Some}
use Rattle.pd_atom.specs.declared.Atom.{Atom}
use Rattle.pd_canvas.specs.declared.tree.Element.{Element}
use Rattle.pd_object.specs.declared.kinds.Kind.{Kind}
use Rattle.pd_kind.specs.declared.states.State.{State}
use Rattle.pd_tree.specs.declared.rows.Fault.{Fault}
use Rattle.pd_tree.specs.Trees.{Cell}
use Rattle.pd_grove.specs.declared.nodes.Node.{Node}
use Rattle.pd_grove.specs.declared.boards.Board.{Board}
use Rattle.pd_grove.specs.declared.seeds.Seed.{Seed}
use Rattle.pd_grove.specs.Standing.{NodeSeen, node_seen, depth_of}
use Rattle.pd_grove.specs.Telling.{inner_in, keys_in}
use Rattle.pd_grove.specs.Owning.{board_in}
use Rattle.pd_grove.specs.Forest.{holder_in, IsForest}
use Rattle.pd_grove.specs.Grafts.{HasOtherKeys, HasBoxMore, HasPartMore, TakesBox, sheet_in}
use Rattle.pd_grove.specs.Planting.{IsMadeOf, Uses}
use Rattle.pd_grove.proofs.UseLemmas.{none_or_some, not_both}
use Rattle.pd_grove.proofs.ForestLemmas.{box_there, live_board}
use Rattle.pd_grove.proofs.NestLemmas.{board_there, node_there}
use Rattle.pd_grove.proofs.GraftLemmas.{is_some}
use Rattle.pd_boxes.specs.Put.{node_of}

live_node : (o : Option Node) → IsSome o → (n : Node) × (o ≡ Some n)
live_node None s = absurd (not_both {A = Node} None refl s)
live_node (Some n) s = (n, refl)

-- a new canvas that lies in a new canvas
record LiesInNew (boards boards' : ℕ → Option Board) (x : ℕ) : Type 0 where
  canvas : ℕ
  vacant : boards canvas ≡ None
  lives : IsSome (boards' canvas)
  deeper : depth_of (boards' x) ≡ depth_of (boards' canvas) + 1

module _ (nodes nodes' : ℕ → Option Node) (boards boards' : ℕ → Option Board) (root c k : ℕ) (before behind : List ℕ)
    (P : HasPartMore nodes nodes' boards boards' c k before behind) (F : IsForest nodes boards root) (bare : inner_in (nodes' k) ≡ None) where
  of_old : (x h : ℕ) → boards x ≡ None → inner_in (nodes' h) ≡ Some x → IsSome (nodes h) → ⊥
  of_old x h v q s =
      let was : inner_in (nodes h) ≡ Some x = ap inner_in (sym (P.boxes_stay h s)) ∙ q in
      none-some h (sym (ap holder_in v) ∙ F.inside h x was)

  of_new : (x h : ℕ) → boards x ≡ None → inner_in (nodes' h) ≡ Some x → nodes h ≡ None → LiesInNew boards boards' x
  of_new x h v q w =
      let N = node_there (nodes' h) x q in
      let y = N.0.board in
      let lies : board_in (nodes' h) ≡ Some y = ap board_in N.1 in
      let other : h ≢ k = (λ e. none-some x (sym bare ∙ ap (λ z. inner_in (nodes' z)) (sym e) ∙ q)) in
      let L = P.placed h y w other lies in
      let B = board_there (boards' y) L.1 h L.2 in
      record { canvas = y; vacant = L.0; lives = is_some (boards' y) B.0 B.1; deeper = P.deeper h y x w lies q }

  around_new : (x : ℕ) → boards x ≡ None → IsSome (boards' x) → LiesInNew boards boards' x
  around_new x v live = by (holder_in (boards' x)) refl
    where
      by : (o : Option ℕ) → holder_in (boards' x) ≡ o → LiesInNew boards boards' x
      by None e = absurd (P.closed x v live e)
      by (Some h) e = ⊎_elim (λ (w : nodes h ≡ None). of_new x h v (P.held x h v e) w) (λ (s : IsSome (nodes h)). absurd (of_old x h v (P.held x h v e) s)) (none_or_some (nodes h))

  -- however deep it would lie, no canvas came
  no_canvas : (d x : ℕ) → boards x ≡ None → IsSome (boards' x) → depth_of (boards' x) ≤ d → ⊥
  no_canvas zero x v live low = let I = around_new x v live in let e = I.deeper in omega (arith, low, e)
  no_canvas (suc d) x v live low = let I = around_new x v live in let e = I.deeper in no_canvas d I.canvas I.vacant I.lives (omega (arith, low, e))

  none_came : (x : ℕ) → boards x ≡ None → boards' x ≡ None
  none_came x v = ⊎_elim (λ (w : boards' x ≡ None). w) (λ (s : IsSome (boards' x)). absurd (no_canvas (depth_of (boards' x)) x v s (omega arith))) (none_or_some (boards' x))

  boards_rest : (x : ℕ) → x ≢ c → boards' x ≡ boards x
  boards_rest x d = ⊎_elim (λ (v : boards x ≡ None). none_came x v ∙ sym v) (λ (s : IsSome (boards x)). P.canvases_stay x d s) (none_or_some (boards x))

  came : (l : ℕ) → l ≢ k → nodes l ≡ None → IsSome (nodes' l) → ⊥
  came l d v s =
      let N = live_node (nodes' l) s in
      let y = N.0.board in
      let L = P.placed l y v d (ap board_in N.1) in
      let B = board_there (boards' y) L.1 l L.2 in
      no_canvas (depth_of (boards' y)) y L.0 (is_some (boards' y) B.0 B.1) (omega arith)

  no_box : (l : ℕ) → l ≢ k → nodes l ≡ None → nodes' l ≡ None
  no_box l d v = ⊎_elim (λ (w : nodes' l ≡ None). w) (λ (s : IsSome (nodes' l)). absurd (came l d v s)) (none_or_some (nodes' l))

  nodes_rest : (l : ℕ) → l ≢ k → nodes' l ≡ nodes l
  nodes_rest l d = ⊎_elim (λ (v : nodes l ≡ None). no_box l d v ∙ sym v) (λ (s : IsSome (nodes l)). P.boxes_stay l s) (none_or_some (nodes l))

  other_keys : HasOtherKeys boards boards' c (before ++ behind) (before ++ k ∷ behind)
  other_keys =
      let B = live_board (boards c) P.live in
      let B' = live_board (boards' c) P.lives in
      record {
        before = B.0;
        after = B'.0;
        was = B.1;
        is = B'.1;
        holder = sym (ap holder_in B'.1) ∙ P.holder ∙ ap holder_in B.1;
        depth = sym (ap depth_of B'.1) ∙ P.depth ∙ ap depth_of B.1;
        sheet = same_Some B'.0.sheet B.0.sheet (sym (ap sheet_in B'.1) ∙ P.sheet ∙ ap sheet_in B.1);
        had = sym (ap keys_in B.1) ∙ P.had;
        has = sym (ap keys_in B'.1) ∙ P.has;
        others = boards_rest;
      }

used_one : (s t : Seed) (used rest : List Seed) (i : ℕ) → s ∷ [] ≡ used ++ rest → slice_get used i ≡ Some t → t ≡ s
used_one s t [] rest i e h = absurd (none-some t h)
used_one s t (x ∷ []) rest zero e h = sym (same_Some x t h) ∙ sym (same_Some s x (ap (λ (zs : List Seed). slice_get zs 0) e))
used_one s t (x ∷ []) rest (suc i) e h = absurd (none-some t h)
used_one s t (x ∷ y ∷ used) rest i e h = let q = ap length e in absurd (omega (arith, q))

inner_seen : (o : Option Node) → option_and_then (λ (v : NodeSeen). v.inner) (option_map node_seen o) ≡ inner_in o
inner_seen None = refl
inner_seen (Some n) = refl

abbrev with_parts : ℕ → Element → List Atom → Kind → Option Fault → Option State → Option ℕ → Node
with_parts b e t k f s i = record { board = b; element = e; text = t; kind = k; fault = f; state = s; inner = i }

-- a box that is made of a seed, in its canvas, without a canvas inside
made_is : (s : Seed) (c : ℕ) (cell : Cell) (o : Option Node) → IsMadeOf s o → option_map node_seen o ≡ Some (record { board = c; cell = cell; inner = None }) → o ≡ Some (node_of c s)
made_is s c cell None m e = absurd m
made_is s c cell (Some n) m e =
    let q : node_seen n ≡ record { board = c; cell = cell; inner = None } = same_Some (node_seen n) (record { board = c; cell = cell; inner = None }) e in
    let b : n.board ≡ c = ap (λ (v : NodeSeen). v.board) q in
    let i : n.inner ≡ None = ap (λ (v : NodeSeen). v.inner) q in
    ap (λ (x : Node). Some x) (
    ap (λ x. with_parts x n.element n.text n.kind n.fault n.state n.inner) b
    ∙ ap (λ x. with_parts c x n.text n.kind n.fault n.state n.inner) m.0
    ∙ ap (λ x. with_parts c s.row.element x n.kind n.fault n.state n.inner) m.1
    ∙ ap (λ x. with_parts c s.row.element s.row.text x n.fault n.state n.inner) m.2
    ∙ ap (λ x. with_parts c s.row.element s.row.text s.row.kind x n.state n.inner) m.3
    ∙ ap (λ x. with_parts c s.row.element s.row.text s.row.kind s.row.fault x n.inner) m.4
    ∙ ap (λ x. with_parts c s.row.element s.row.text s.row.kind s.row.fault (Some s.state) x) i)

-- where a part came whose first box holds no canvas, one box came, which is made of its seed
pub leaf_comes : (nodes nodes' : ℕ → Option Node) (boards boards' : ℕ → Option Board) (root c k : ℕ) (s : Seed) (rest : List Seed) (cell : Cell) (before behind : List ℕ)
    → HasPartMore nodes nodes' boards boards' c k before behind → IsForest nodes boards root
    → option_map node_seen (nodes' k) ≡ Some (record { board = c; cell = cell; inner = None }) → Uses nodes nodes' (s ∷ []) rest
    → HasBoxMore nodes nodes' boards boards' c k (node_of c s) before behind
leaf_comes nodes nodes' boards boards' root c k s rest cell before behind P F seen U =
    let bare : inner_in (nodes' k) ≡ None = sym (inner_seen (nodes' k)) ∙ ap (option_and_then (λ (v : NodeSeen). v.inner)) seen in
    let lives : IsSome (nodes' k) = subst (λ o. IsSome o) (sym (box_there (nodes' k) c P.lies).is) refl in
    let M = U.made k P.vacant lives in
    let same : M.0 ≡ s = used_one s M.0 U.used rest M.1 U.split M.2 in
    record {
      vacant = P.vacant;
      is = made_is s c cell (nodes' k) (subst (λ (x : Seed). IsMadeOf x (nodes' k)) same M.3) seen;
      lies = refl;
      bare = refl;
      others = nodes_rest nodes nodes' boards boards' root c k before behind P F bare;
      keys = other_keys nodes nodes' boards boards' root c k before behind P F bare;
    }

-- what came can be taken again, and then all is as it was
pub taken_back : (nodes nodes' : ℕ → Option Node) (boards boards' : ℕ → Option Board) (c k : ℕ) (n : Node) (before behind : List ℕ)
    → HasBoxMore nodes nodes' boards boards' c k n before behind → TakesBox nodes' nodes boards' boards c k n before behind
taken_back nodes nodes' boards boards' c k n before behind M =
    let K = M.keys in
    let bare : inner_in (nodes' k) ≡ None = ap inner_in M.is ∙ M.bare in
    record {
      was = M.is;
      lay = M.lies;
      gone = M.vacant;
      old = K.after;
      new = K.before;
      board = K.is;
      without = K.was;
      holder = sym K.holder;
      depth = sym K.depth;
      sheet = sym K.sheet;
      had = K.has;
      has = K.had;
      boards_go = λ x L. absurd (none-some L.0 (sym bare ∙ L.1));
      nodes_go = λ l x lies L. absurd (none-some L.0 (sym bare ∙ L.1));
      boards_stay = λ x d out. sym (K.others x d);
      nodes_stay = λ l x d lies out. sym (M.others l d);
      none_comes = λ l s. sym (M.others l (λ e. not_both (nodes l) (ap nodes e ∙ M.vacant) s));
      no_canvas_comes = λ x d s. sym (K.others x d);
    }
