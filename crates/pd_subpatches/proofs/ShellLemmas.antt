-- A box that came and holds a canvas without boxes came with that canvas alone.
use Rattle.std.proofs.Common.{◌≡◌, ◌≢◌, ℕ, zero, suc, ◌+◌, ◌<◌, ◌≤◌, cond, List, [], ◌∷◌, ◌++◌, length, nat_eq, Option, Some, None, IsSome, refl, sym, ap, ◌∙◌, subst, arith}
use Rattle.std.specs.Prelude.{slice_get, option_map, option_and_then}
use mathlib.Core.Logic.{⊎_elim}
use Rattle.std.proofs.lemmas.Bool.{cases_eq, eq-eqb, ne_eqb}
use Rattle.std.proofs.lemmas.Option.{none-some, same_Some}
use Rattle.pd_atom.specs.declared.Atom.{Atom}
use Rattle.pd_canvas.specs.declared.tree.Element.{Element}
use Rattle.pd_object.specs.declared.kinds.Kind.{Kind}
use Rattle.pd_kind.specs.declared.states.State.{State}
use Rattle.pd_tree.specs.declared.rows.Fault.{Fault}
use Rattle.pd_tree.specs.declared.rows.Sheet.{Sheet}
use Rattle.pd_tree.specs.Trees.{Cell, Trees, Done, Holder, Stand, width, stands_of}
use Rattle.pd_grove.specs.declared.nodes.Node.{Node}
use Rattle.pd_grove.specs.declared.boards.Board.{Board}
use Rattle.pd_grove.specs.declared.seeds.Seed.{Seed}
use Rattle.pd_grove.specs.Standing.{NodeSeen, BoardSeen, Stands, node_seen, board_seen, with_inner, depth_of}
use Rattle.pd_grove.specs.Telling.{inner_in, keys_in}
use Rattle.pd_grove.specs.Owning.{board_in}
use Rattle.pd_grove.specs.TextOrder.{deep}
use Rattle.pd_grove.specs.Forest.{holder_in, IsForest}
use Rattle.pd_grove.specs.Grafts.{HasOtherKeys, HasPartMore, sheet_in}
use Rattle.pd_grove.specs.Planting.{IsMadeOf, Uses, seed_stand, stands_ready, one}
use Rattle.pd_grove.proofs.UseLemmas.{none_or_some, not_both}
use Rattle.pd_grove.proofs.ForestLemmas.{box_there, live_board}
use Rattle.pd_grove.proofs.NestLemmas.{board_there, node_there}
use Rattle.pd_grove.proofs.GraftLemmas.{is_some}
use Rattle.pd_boxes.specs.Put.{node_of}
use Rattle.pd_subpatches.specs.Grove.{HasShellMore}
use Rattle.pd_subpatches.specs.Shell.{IsShell}

live_node : (o : Option Node) → IsSome o → (n : Node) × (o ≡ Some n)
live_node None s = absurd (not_both {A = Node} None refl s)
live_node (Some n) s = (n, refl)

-- a new canvas that lies in another new canvas, which has boxes
record LiesInNew (boards boards' : ℕ → Option Board) (x j : ℕ) : Type 0 where
  canvas : ℕ
  other : canvas ≢ j
  vacant : boards canvas ≡ None
  lives : IsSome (boards' canvas)
  deeper : depth_of (boards' x) ≡ depth_of (boards' canvas) + 1

module _ (nodes nodes' : ℕ → Option Node) (boards boards' : ℕ → Option Board) (root c k j : ℕ) (before behind : List ℕ)
    (P : HasPartMore nodes nodes' boards boards' c k before behind) (F : IsForest nodes boards root) (holds : inner_in (nodes' k) ≡ Some j) (empty : keys_in (boards' j) ≡ []) where
  of_old : (x h : ℕ) → boards x ≡ None → inner_in (nodes' h) ≡ Some x → IsSome (nodes h) → ⊥
  of_old x h v q s =
      let was : inner_in (nodes h) ≡ Some x = ap inner_in (sym (P.boxes_stay h s)) ∙ q in
      none-some h (sym (ap holder_in v) ∙ F.inside h x was)

  -- the canvas has no box
  not_empty : (i y l : ℕ) → slice_get (keys_in (boards' y)) i ≡ Some l → y ≢ j
  not_empty i y l at = λ e. none-some l (sym (ap (λ ks. slice_get ks i) empty) ∙ sym (ap (λ z. slice_get (keys_in (boards' z)) i) e) ∙ at)

  of_new : (x h : ℕ) → x ≢ j → boards x ≡ None → inner_in (nodes' h) ≡ Some x → nodes h ≡ None → LiesInNew boards boards' x j
  of_new x h d v q w =
      let N = node_there (nodes' h) x q in
      let y = N.0.board in
      let lies : board_in (nodes' h) ≡ Some y = ap board_in N.1 in
      let other : h ≢ k = (λ e. d (same_Some x j (sym q ∙ ap (λ z. inner_in (nodes' z)) e ∙ holds))) in
      let L = P.placed h y w other lies in
      let B = board_there (boards' y) L.1 h L.2 in
      record { canvas = y; other = not_empty L.1 y h L.2; vacant = L.0; lives = is_some (boards' y) B.0 B.1; deeper = P.deeper h y x w lies q }

  around_new : (x : ℕ) → x ≢ j → boards x ≡ None → IsSome (boards' x) → LiesInNew boards boards' x j
  around_new x d v live = by (holder_in (boards' x)) refl
    where
      by : (o : Option ℕ) → holder_in (boards' x) ≡ o → LiesInNew boards boards' x j
      by None e = absurd (P.closed x v live e)
      by (Some h) e = ⊎_elim (λ (w : nodes h ≡ None). of_new x h d v (P.held x h v e) w) (λ (s : IsSome (nodes h)). absurd (of_old x h v (P.held x h v e) s)) (none_or_some (nodes h))

  -- however deep it would lie, no other canvas came
  no_canvas : (d x : ℕ) → x ≢ j → boards x ≡ None → IsSome (boards' x) → depth_of (boards' x) ≤ d → ⊥
  no_canvas zero x other v live low = let I = around_new x other v live in let e = I.deeper in omega (arith, low, e)
  no_canvas (suc d) x other v live low = let I = around_new x other v live in let e = I.deeper in no_canvas d I.canvas I.other I.vacant I.lives (omega (arith, low, e))

  none_came : (x : ℕ) → x ≢ j → boards x ≡ None → boards' x ≡ None
  none_came x d v = ⊎_elim (λ (w : boards' x ≡ None). w) (λ (s : IsSome (boards' x)). absurd (no_canvas (depth_of (boards' x)) x d v s (omega arith))) (none_or_some (boards' x))

  boards_rest : (x : ℕ) → x ≢ c → x ≢ j → boards' x ≡ boards x
  boards_rest x d f = ⊎_elim (λ (v : boards x ≡ None). none_came x f v ∙ sym v) (λ (s : IsSome (boards x)). P.canvases_stay x d s) (none_or_some (boards x))

  came : (l : ℕ) → l ≢ k → nodes l ≡ None → IsSome (nodes' l) → ⊥
  came l d v s =
      let N = live_node (nodes' l) s in
      let y = N.0.board in
      let L = P.placed l y v d (ap board_in N.1) in
      let B = board_there (boards' y) L.1 l L.2 in
      no_canvas (depth_of (boards' y)) y (not_empty L.1 y l L.2) L.0 (is_some (boards' y) B.0 B.1) (omega arith)

  no_box : (l : ℕ) → l ≢ k → nodes l ≡ None → nodes' l ≡ None
  no_box l d v = ⊎_elim (λ (w : nodes' l ≡ None). w) (λ (s : IsSome (nodes' l)). absurd (came l d v s)) (none_or_some (nodes' l))

  nodes_rest : (l : ℕ) → l ≢ k → nodes' l ≡ nodes l
  nodes_rest l d = ⊎_elim (λ (v : nodes l ≡ None). no_box l d v ∙ sym v) (λ (s : IsSome (nodes l)). P.boxes_stay l s) (none_or_some (nodes l))

  inside_new : (boards j ≡ None) × (holder_in (boards' j) ≡ Some k)
  inside_new = P.inside k j P.vacant holds

  around_other : c ≢ j
  around_other e = not_both (boards c) (ap boards e ∙ inside_new.0) P.live

  -- the boxes and the canvases as they were before the box got its canvas
  module _ (n : Node) (is : nodes' k ≡ Some (with_inner j n)) (lies : n.board ≡ c) (bare : n.inner ≡ None) (b : Board) (opened : boards' j ≡ Some b)
      (deep : b.depth ≡ depth_of (boards c) + 1) (low : b.depth < 257) where
    abbrev nodes_between : ℕ → Option Node
    nodes_between l = cond (nat_eq l k) (Some n) (nodes' l)

    abbrev boards_between : ℕ → Option Board
    boards_between x = cond (nat_eq x j) None (boards' x)

    node_new : nodes_between k ≡ Some n
    node_new = ap (λ t. cond t (Some n) (nodes' k)) (eq-eqb k k refl)

    node_other : (l : ℕ) → l ≢ k → nodes_between l ≡ nodes' l
    node_other l d = ap (λ t. cond t (Some n) (nodes' l)) (ne_eqb l k d)

    board_none : boards_between j ≡ None
    board_none = ap (λ t. cond t None (boards' j)) (eq-eqb j j refl)

    board_other : (x : ℕ) → x ≢ j → boards_between x ≡ boards' x
    board_other x d = ap (λ t. cond t None (boards' x)) (ne_eqb x j d)

    same_around : boards_between c ≡ boards' c
    same_around = board_other c around_other

    other_keys : HasOtherKeys boards boards_between c (before ++ behind) (before ++ k ∷ behind)
    other_keys =
        let B = live_board (boards c) P.live in
        let B' = live_board (boards' c) P.lives in
        record {
          before = B.0;
          after = B'.0;
          was = B.1;
          is = same_around ∙ B'.1;
          holder = sym (ap holder_in B'.1) ∙ P.holder ∙ ap holder_in B.1;
          depth = sym (ap depth_of B'.1) ∙ P.depth ∙ ap depth_of B.1;
          sheet = same_Some B'.0.sheet B.0.sheet (sym (ap sheet_in B'.1) ∙ P.sheet ∙ ap sheet_in B.1);
          had = sym (ap keys_in B.1) ∙ P.had;
          has = sym (ap keys_in B'.1) ∙ P.has;
          others = λ x d. ⊎_elim
              (λ (e : x ≡ j). ap boards_between e ∙ board_none ∙ sym (ap boards e ∙ inside_new.0))
              (λ (f : x ≢ j). board_other x f ∙ boards_rest x d f) (cases_eq x j);
        }

    with_canvas : HasShellMore nodes nodes' boards boards' c k j n b before behind
    with_canvas = record {
      nodes_between = nodes_between;
      boards_between = boards_between;
      box = record {
        vacant = P.vacant;
        is = node_new;
        lies = lies;
        bare = bare;
        others = λ l d. node_other l d ∙ nodes_rest l d;
        keys = other_keys;
      };
      canvas = record {
        was = node_new;
        bare = bare;
        is = is;
        others = λ l d. sym (node_other l d);
        vacant = board_none;
        opened = opened;
        held = sym (ap holder_in opened) ∙ inside_new.1;
        deeper = deep ∙ ap (λ m. m + 1) (sym P.depth ∙ sym (ap depth_of same_around) ∙ ap (λ y. depth_of (boards_between y)) (sym lies));
        low = low;
        empty = sym (ap keys_in opened) ∙ empty;
        stay = λ x d. sym (board_other x d);
      };
    }

used_one : (s t : Seed) (used rest : List Seed) (i : ℕ) → s ∷ [] ≡ used ++ rest → slice_get used i ≡ Some t → t ≡ s
used_one s t [] rest i e h = absurd (none-some t h)
used_one s t (x ∷ []) rest zero e h = sym (same_Some x t h) ∙ sym (same_Some s x (ap (λ (zs : List Seed). slice_get zs 0) e))
used_one s t (x ∷ []) rest (suc i) e h = absurd (none-some t h)
used_one s t (x ∷ y ∷ used) rest i e h = let q = ap length e in absurd (omega (arith, q))

inner_seen : (o : Option Node) → option_and_then (λ (v : NodeSeen). v.inner) (option_map node_seen o) ≡ inner_in o
inner_seen None = refl
inner_seen (Some n) = refl

keys_seen : (o : Option Board) (s : BoardSeen) → option_map board_seen o ≡ Some s → keys_in o ≡ s.keys
keys_seen None s e = absurd (none-some s e)
keys_seen (Some b) s e = ap (λ (x : BoardSeen). x.keys) (same_Some (board_seen b) s e)

abbrev with_parts : ℕ → Element → List Atom → Kind → Option Fault → Option State → Option ℕ → Node
with_parts b e t k f s i = record { board = b; element = e; text = t; kind = k; fault = f; state = s; inner = i }

-- a box that is made of a seed, in its canvas, and holds this canvas
made_is : (s : Seed) (c j : ℕ) (cell : Cell) (o : Option Node) → IsMadeOf s o → option_map node_seen o ≡ Some (record { board = c; cell = cell; inner = Some j }) → o ≡ Some (with_inner j (node_of c s))
made_is s c j cell None m e = absurd m
made_is s c j cell (Some n) m e =
    let q : node_seen n ≡ record { board = c; cell = cell; inner = Some j } = same_Some (node_seen n) (record { board = c; cell = cell; inner = Some j }) e in
    let b : n.board ≡ c = ap (λ (v : NodeSeen). v.board) q in
    let i : n.inner ≡ Some j = ap (λ (v : NodeSeen). v.inner) q in
    ap (λ (x : Node). Some x) (
    ap (λ x. with_parts x n.element n.text n.kind n.fault n.state n.inner) b
    ∙ ap (λ x. with_parts c x n.text n.kind n.fault n.state n.inner) m.0
    ∙ ap (λ x. with_parts c s.row.element x n.kind n.fault n.state n.inner) m.1
    ∙ ap (λ x. with_parts c s.row.element s.row.text x n.fault n.state n.inner) m.2
    ∙ ap (λ x. with_parts c s.row.element s.row.text s.row.kind x n.state n.inner) m.3
    ∙ ap (λ x. with_parts c s.row.element s.row.text s.row.kind s.row.fault x n.inner) m.4
    ∙ ap (λ x. with_parts c s.row.element s.row.text s.row.kind s.row.fault (Some s.state) x) i)

none_stand : (nodes : ℕ → Option Node) (boards : ℕ → Option Board) (j d : ℕ) (js : List ℕ) → Stands nodes boards j d js Done → js ≡ []
none_stand nodes boards j d [] S = refl
none_stand nodes boards j d (k ∷ ks) S = absurd S

-- the box that a seed becomes, with the canvas that it holds
record ShellIn (nodes nodes' : ℕ → Option Node) (boards boards' : ℕ → Option Board) (c k : ℕ) (s : Seed) (sheet : Sheet) (before behind : List ℕ) : Type 0 where
  canvas : ℕ
  board : Board
  sheet_is : board.sheet ≡ sheet
  more : HasShellMore nodes nodes' boards boards' c k canvas (node_of c s) board before behind

-- where a part came whose first box holds a canvas without boxes, that box and that canvas came
shell_comes : (nodes nodes' : ℕ → Option Node) (boards boards' : ℕ → Option Board) (root c k : ℕ) (s : Seed) (rest : List Seed) (cell : Cell) (sheet : Sheet) (before behind : List ℕ)
    → HasPartMore nodes nodes' boards boards' c k before behind → IsForest nodes boards root → depth_of (boards c) + 1 < 257
    → Stands nodes' boards' c (depth_of (boards c)) (k ∷ []) (Holder cell sheet Done Done) → Uses nodes nodes' (s ∷ []) rest
    → ShellIn nodes nodes' boards boards' c k s sheet before behind
shell_comes nodes nodes' boards boards' root c k s rest cell sheet before behind P F low S U =
    let j = S.0 in
    let js = S.1 in
    let seen = S.2 in
    let none : js ≡ [] = none_stand nodes' boards' j (depth_of (boards c) + 1) js S.4 in
    let board : option_map board_seen (boards' j) ≡ Some (record { holder = Some k; depth = depth_of (boards c) + 1; sheet = sheet; keys = js }) = S.3 in
    let holds : inner_in (nodes' k) ≡ Some j = sym (inner_seen (nodes' k)) ∙ ap (option_and_then (λ (v : NodeSeen). v.inner)) seen in
    let empty : keys_in (boards' j) ≡ [] = keys_seen (boards' j) (record { holder = Some k; depth = depth_of (boards c) + 1; sheet = sheet; keys = js }) board ∙ none in
    let lives : IsSome (nodes' k) = subst (λ o. IsSome o) (sym (box_there (nodes' k) c P.lies).is) refl in
    let M = U.made k P.vacant lives in
    let same : M.0 ≡ s = used_one s M.0 U.used rest M.1 U.split M.2 in
    let is = made_is s c j cell (nodes' k) (subst (λ (x : Seed). IsMadeOf x (nodes' k)) same M.3) seen in
    by j js is holds empty board (boards' j) refl
  where
    by : (j : ℕ) (js : List ℕ) → nodes' k ≡ Some (with_inner j (node_of c s)) → inner_in (nodes' k) ≡ Some j → keys_in (boards' j) ≡ []
        → option_map board_seen (boards' j) ≡ Some (record { holder = Some k; depth = depth_of (boards c) + 1; sheet = sheet; keys = js })
        → (o : Option Board) → boards' j ≡ o → ShellIn nodes nodes' boards boards' c k s sheet before behind
    by j js is holds empty seen None e = absurd (none-some (record { holder = Some k; depth = depth_of (boards c) + 1; sheet = sheet; keys = js }) (sym (ap (option_map board_seen) e) ∙ seen))
    by j js is holds empty seen (Some b) e =
        let q : board_seen b ≡ record { holder = Some k; depth = depth_of (boards c) + 1; sheet = sheet; keys = js } =
        same_Some (board_seen b) (record { holder = Some k; depth = depth_of (boards c) + 1; sheet = sheet; keys = js }) (sym (ap (option_map board_seen) e) ∙ seen) in
        let deep : b.depth ≡ depth_of (boards c) + 1 = ap (λ (x : BoardSeen). x.depth) q in
        record {
          canvas = j;
          board = b;
          sheet_is = ap (λ (x : BoardSeen). x.sheet) q;
          more = with_canvas nodes nodes' boards boards' root c k j before behind P F holds empty (node_of c s) is refl refl b e deep (omega (arith, deep, low));
        }

sheet_there : (o : Option Sheet) → IsSome o → (x : Sheet) × (o ≡ Some x)
sheet_there None s = absurd (not_both {A = Sheet} None refl s)
sheet_there (Some x) s = (x, refl)

shell_stand : (s : Seed) (sheet : Sheet) (rest : List Seed) → s.row.sheet ≡ Some sheet → s.row.boxes ≡ 0 → rest ≡ []
    → one (seed_stand s) (stands_ready rest) ≡ stands_of (Holder (seed_stand s).cell sheet Done Done) ++ []
shell_stand s sheet rest has empty none =
    ap (λ (ss : List Seed). seed_stand s ∷ stands_ready ss) none
    ∙ ap (λ (x : Option Sheet). record { cell = (seed_stand s).cell; sheet = x; boxes = s.row.boxes } ∷ []) has
    ∙ ap (λ (m : ℕ). record { cell = (seed_stand s).cell; sheet = Some sheet; boxes = m } ∷ []) empty

-- the seed's sheet, and the box that it became, with the canvas that it holds
pub record ShellThere (nodes nodes' : ℕ → Option Node) (boards boards' : ℕ → Option Board) (c k : ℕ) (s : Seed) (before behind : List ℕ) : Type 0 where
  pub canvas : ℕ
  pub board : Board
  pub sheet : s.row.sheet ≡ Some board.sheet
  pub more : HasShellMore nodes nodes' boards boards' c k canvas (node_of c s) board before behind

-- what planting a seed says of the box and the canvas that come, where nothing is to come inside
pub shell_in : (nodes nodes' : ℕ → Option Node) (boards boards' : ℕ → Option Board) (root c k : ℕ) (s : Seed) (rest left : List Seed) (before behind : List ℕ)
    → IsShell s → rest ≡ [] → IsForest nodes boards root → depth_of (boards c) + 1 < 257
    → ((t : Trees) (more : List Stand) → one (seed_stand s) (stands_ready rest) ≡ stands_of t ++ more → width t ≡ 1 → depth_of (boards c) + deep t < 257 → HasPartMore nodes nodes' boards boards' c k before behind)
    → ((t : Trees) (more : List Stand) → one (seed_stand s) (stands_ready rest) ≡ stands_of t ++ more → width t ≡ 1 →
    Stands nodes' boards' c (depth_of (boards c)) (k ∷ []) t × (stands_ready left ≡ more))
    → Uses nodes nodes' (s ∷ rest) left → ShellThere nodes nodes' boards boards' c k s before behind
shell_in nodes nodes' boards boards' root c k s rest left before behind shell none F low part stands U =
    let cell = (seed_stand s).cell in
    let has = sheet_there s.row.sheet shell.sheet in
    let is = shell_stand s has.0 rest has.1 shell.no_boxes none in
    let I = shell_comes nodes nodes' boards boards' root c k s left cell has.0 before behind (part (Holder cell has.0 Done Done) [] is refl low) F low
    ((stands (Holder cell has.0 Done Done) [] is refl).0)
    (subst (λ (ss : List Seed). Uses nodes nodes' (s ∷ ss) left) none U) in
    record { canvas = I.canvas; board = I.board; sheet = has.1 ∙ ap (λ x. Some x) (sym I.sheet_is); more = I.more }
