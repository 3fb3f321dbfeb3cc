-- A box at another place, and the tree that stands.
use Rattle.std.proofs.Common.{◌≡◌, ◌≢◌, ℕ, zero, suc, ℤ, ◌+◌, ◌≤◌, List, [], ◌∷◌, slice_get, Option, Some, None, refl, sym, ap, ◌∙◌, subst, arith}
use Rattle.std.specs.Prelude.{option_map}
use Rattle.std.proofs.lemmas.Option.{none-some, same_Some}
use mathlib.Core.Logic.{⊎_elim}
use Rattle.std.proofs.lemmas.Bool.{cases_eq}
use Rattle.slab.specs.Slab.{Slab, get}
use Rattle.pd_object.specs.declared.kinds.Kind.{Kind}
use Rattle.pd_kind.specs.declared.states.State.{State}
use Rattle.pd_tree.specs.Trees.{Trees, Done, Leaf, Holder, Tree}
use Rattle.pd_grove.specs.declared.nodes.Node.{Node}
use Rattle.pd_grove.specs.declared.boards.Board.{Board}
use Rattle.pd_grove.specs.declared.grove.Grove.{Grove}
use Rattle.pd_grove.specs.OwnPaths.{sub_reached}
use Rattle.pd_grove.specs.Refits.{at_place, Alters}
use Rattle.pd_grove.specs.Standing.{NodeSeen, node_seen, BoardSeen, board_seen, Stands, GroveStands}
use Rattle.pd_grove.specs.Telling.{inner_in}
use Rattle.pd_grove.specs.TextOrder.{deep}
use Rattle.pd_grove.proofs.PlaceLemmas.{seen_keys}
use Rattle.pd_web.specs.Canvases.{keys_at}
use Rattle.pd_present.specs.Contents.{present_head}
use Rattle.pd_patch.specs.declared.patch.Patch.{Patch}
use Rattle.pd_boxes.specs.Put.{CanPut}
use Rattle.pd_regrowth_law.specs.Canvases.{canvas_with}
use Rattle.pd_reload_law.specs.Reloading.{RunsAs}
use Rattle.pd_reload_law.specs.Saving.{AreSavable, TurnsWhole}
use Rattle.pd_reload_law.proofs.EditLemmas.{sub_inner}
use Rattle.pd_putting_law.specs.Puts.{change_inside, change_at}
use Rattle.pd_putting_law.proofs.PathLemmas.{Forest, subs, sub_leads, LeadsNot, not_same, not_around}
use Rattle.pd_putting_law.proofs.StandLemmas.{seen_inner, CanvasAt, keys_are, AreAside, AreBeside, aside_next, beside_first, beside_next, beside_here, aside_inside, aside_here, beside_on, deep_within}
use Rattle.pd_shifting.specs.declared.shifting.MovedBox.{MovedBox}
use Rattle.pd_shifting.specs.Moves.{MovesBox}
use Rattle.pd_shifting.proofs.MoveLemmas.{is_moving}
use Rattle.pd_shifted_law.specs.Shifts.{cell_at, boxes_shifted, shifted_box, shifted_at}
use Rattle.pd_sliding_law.proofs.PageLemmas.{elsewhere, beside}
use Rattle.pd_shifted_law.proofs.EitherLemmas.{box_alters, forest_then}

seen_moved : (x y : ℤ) (o : Option Node) (z : NodeSeen) → option_map node_seen o ≡ Some z
    → option_map node_seen (option_map (at_place x y) o) ≡ Some (record { board = z.board; cell = cell_at x y z.cell; inner = z.inner })
seen_moved x y None z e = absurd (none-some z e)
seen_moved x y (Some n) z e =
    ap (λ (v : NodeSeen). Some (record { board = v.board; cell = cell_at x y v.cell; inner = v.inner })) (same_Some (node_seen n) z e)

-- none of these boxes is the one of the key
abbrev pub AreOthers : ℕ → List ℕ → Type 0
AreOthers key keys = (i k : ℕ) → slice_get keys i ≡ Some k → k ≢ key

-- none but the one of a number
abbrev pub AreOthersBut : ℕ → ℕ → List ℕ → Type 0
AreOthersBut key n keys = (i k : ℕ) → i ≢ n → slice_get keys i ≡ Some k → k ≢ key

others_next : (key k : ℕ) (ks : List ℕ) → AreOthers key (k ∷ ks) → AreOthers key ks
others_next key k ks o i l e = o (suc i) l e

but_first : (key k : ℕ) (ks : List ℕ) → AreOthersBut key zero (k ∷ ks) → AreOthers key ks
but_first key k ks o i l e = o (suc i) l (never i) e
  where
    never : (i : ℕ) → suc i ≢ 0
    never i e = cc

but_next : (key n k : ℕ) (ks : List ℕ) → AreOthersBut key (suc n) (k ∷ ks) → AreOthersBut key n ks
but_next key n k ks o i l apart e = o (suc i) l (λ s. apart (less i n s)) e
  where
    less : (i n : ℕ) → suc i ≡ suc n → i ≡ n
    less i n e = omega (arith, e)

but_here : (key n k : ℕ) (ks : List ℕ) → AreOthersBut key (suc n) (k ∷ ks) → k ≢ key
but_here key n k ks o = o 0 k (never n) refl
  where
    never : (n : ℕ) → 0 ≢ suc n
    never n e = cc

module _ (g h : Grove) (canvas key number : ℕ) (x y : ℤ) (F : Forest g) (is : slice_get (keys_at g canvas) number ≡ Some key) (A : Alters g h key (at_place x y)) where
  seen_still : (k : ℕ) (z : NodeSeen) → k ≢ key → option_map node_seen (get g.nodes k) ≡ Some z → option_map node_seen (get h.nodes k) ≡ Some z
  seen_still k z d e = ap (option_map node_seen) (A.others k d) ∙ e

  seen_here : (k : ℕ) (z : NodeSeen) → k ≡ key → option_map node_seen (get g.nodes k) ≡ Some z
      → option_map node_seen (get h.nodes k) ≡ Some (record { board = z.board; cell = cell_at x y z.cell; inner = z.inner })
  seen_here k z same e =
      ap (λ j. option_map node_seen (get h.nodes j)) same ∙ ap (option_map node_seen) A.box
      ∙ seen_moved x y (get g.nodes key) z (ap (λ j. option_map node_seen (get g.nodes j)) (sym same) ∙ e)

  board_still : (j : ℕ) (z : BoardSeen) → option_map board_seen (get g.boards j) ≡ Some z → option_map board_seen (get h.boards j) ≡ Some z
  board_still j z e = ap (λ (s : Slab Board). option_map board_seen (get s j)) A.boards ∙ e

  others_inside : (j : ℕ) (js : List ℕ) → keys_at g j ≡ js → j ≢ canvas → AreOthers key js
  others_inside j js same apart i k at =
      elsewhere g canvas key number F is j i k apart (ap (λ l. slice_get l i) same ∙ at)

  stands_aside : (b d : ℕ) (keys : List ℕ) (t : Trees) → AreOthers key keys → AreAside g canvas keys → Stands (get g.nodes) (get g.boards) b d keys t
      → Stands (get h.nodes) (get h.boards) b d keys t
  stands_aside b d [] Done o a S = tt
  stands_aside b d (k ∷ ks) Done o a S = absurd S
  stands_aside b d [] (Leaf c rest) o a S = absurd S
  stands_aside b d (k ∷ ks) (Leaf c rest) o a S =
      (seen_still k _ (o 0 k refl) S.0, stands_aside b d ks rest (others_next key k ks o) (aside_next g canvas k ks a) S.1)
  stands_aside b d [] (Holder c s inner rest) o a S = absurd S
  stands_aside b d (k ∷ ks) (Holder c s inner rest) o a S =
      let out : LeadsNot g canvas S.0 = a 0 k S.0 refl (seen_inner (get g.nodes k) _ S.2) in
      let same : keys_at g S.0 ≡ S.1 = seen_keys (get g.boards S.0) _ S.3 in (
        S.0,
        S.1,
        seen_still k _ (o 0 k refl) S.2,
        board_still S.0 _ S.3,
        stands_aside S.0 (d + 1) S.1 inner (others_inside S.0 S.1 same (not_same g canvas S.0 out)) (aside_inside g canvas S.0 S.1 same out) S.4,
        stands_aside b d ks rest (others_next key k ks o) (aside_next g canvas k ks a) S.5,
      )

  -- boxes among which it is
  stands_shifted : (b d : ℕ) (keys : List ℕ) (t : Trees) (n : ℕ) → slice_get keys n ≡ Some key → AreOthersBut key n keys → AreAside g canvas keys
      → Stands (get g.nodes) (get g.boards) b d keys t → Stands (get h.nodes) (get h.boards) b d keys (boxes_shifted n x y t)
  stands_shifted b d [] t n at o a S = absurd (none-some key at)
  stands_shifted b d (k ∷ ks) Done n at o a S = absurd S
  stands_shifted b d (k ∷ ks) (Leaf c rest) zero at o a S =
      (seen_here k _ (same_Some k key at) S.0, stands_aside b d ks rest (but_first key k ks o) (aside_next g canvas k ks a) S.1)
  stands_shifted b d (k ∷ ks) (Leaf c rest) (suc n) at o a S =
      (seen_still k _ (but_here key n k ks o) S.0, stands_shifted b d ks rest n at (but_next key n k ks o) (aside_next g canvas k ks a) S.1)
  stands_shifted b d (k ∷ ks) (Holder c s inner rest) zero at o a S =
      let out : LeadsNot g canvas S.0 = a 0 k S.0 refl (seen_inner (get g.nodes k) _ S.2) in
      let same : keys_at g S.0 ≡ S.1 = seen_keys (get g.boards S.0) _ S.3 in (
        S.0,
        S.1,
        seen_here k _ (same_Some k key at) S.2,
        board_still S.0 _ S.3,
        stands_aside S.0 (d + 1) S.1 inner (others_inside S.0 S.1 same (not_same g canvas S.0 out)) (aside_inside g canvas S.0 S.1 same out) S.4,
        stands_aside b d ks rest (but_first key k ks o) (aside_next g canvas k ks a) S.5,
      )
  stands_shifted b d (k ∷ ks) (Holder c s inner rest) (suc n) at o a S =
      let out : LeadsNot g canvas S.0 = a 0 k S.0 refl (seen_inner (get g.nodes k) _ S.2) in
      let same : keys_at g S.0 ≡ S.1 = seen_keys (get g.boards S.0) _ S.3 in (
        S.0,
        S.1,
        seen_still k _ (but_here key n k ks o) S.2,
        board_still S.0 _ S.3,
        stands_aside S.0 (d + 1) S.1 inner (others_inside S.0 S.1 same (not_same g canvas S.0 out)) (aside_inside g canvas S.0 S.1 same out) S.4,
        stands_shifted b d ks rest n at (but_next key n k ks o) (aside_next g canvas k ks a) S.5,
      )

  shifted_here : (holder : Option ℕ) (d : ℕ) (u : Tree) → CanvasAt g canvas holder d u → CanvasAt h canvas holder d (shifted_box number x y u)
  shifted_here holder d u C =
      let same = keys_are g canvas holder d u C in
      record {
        keys = C.keys;
        board = board_still canvas _ C.board;
        stands = stands_shifted canvas d C.keys u.boxes number (ap (λ (l : List ℕ). slice_get l number) (sym same) ∙ is)
            (λ i k apart at. beside g canvas key number F is i k apart (ap (λ l. slice_get l i) same ∙ at)) (aside_here g canvas C.keys F same) C.stands;
      }

  shifted_inside : (f : Tree → Tree) (b d : ℕ) (keys : List ℕ) (t : Trees) (n k j : ℕ) → slice_get keys n ≡ Some k → inner_in (get g.nodes k) ≡ Some j
      → AreOthers key keys → AreBeside g canvas n keys → ((u : Tree) → CanvasAt g j (Some k) (d + 1) u → CanvasAt h j (Some k) (d + 1) (f u))
      → Stands (get g.nodes) (get g.boards) b d keys t → Stands (get h.nodes) (get h.boards) b d keys (change_inside n f t)
  shifted_inside f b d [] t n k j at holds o a on S = absurd (none-some k at)
  shifted_inside f b d (l ∷ ls) Done n k j at holds o a on S = absurd S
  shifted_inside f b d (l ∷ ls) (Leaf c rest) zero k j at holds o a on S =
      (seen_still l _ (o 0 l refl) S.0, stands_aside b d ls rest (others_next key l ls o) (beside_first g canvas l ls a) S.1)
  shifted_inside f b d (l ∷ ls) (Leaf c rest) (suc n) k j at holds o a on S =
      (seen_still l _ (o 0 l refl) S.0, shifted_inside f b d ls rest n k j at holds (others_next key l ls o) (beside_next g canvas n l ls a) on S.1)
  shifted_inside f b d (l ∷ ls) (Holder c s inner rest) zero k j at holds o a on S =
      let same : l ≡ k = same_Some l k at in
      let is : S.0 ≡ j = same_Some S.0 j (sym (seen_inner (get g.nodes l) _ S.2) ∙ ap (λ z. inner_in (get g.nodes z)) same ∙ holds) in
      let here = subst (λ z. (u : Tree) → CanvasAt g S.0 (Some z) (d + 1) u → CanvasAt h S.0 (Some z) (d + 1) (f u)) (sym same)
      (subst (λ z. (u : Tree) → CanvasAt g z (Some k) (d + 1) u → CanvasAt h z (Some k) (d + 1) (f u)) (sym is) on) in
      let C = here (canvas_with s inner) (record { keys = S.1; board = S.3; stands = S.4 }) in
      (S.0, C.keys, seen_still l _ (o 0 l refl) S.2, C.board, C.stands, stands_aside b d ls rest (others_next key l ls o) (beside_first g canvas l ls a) S.5)
  shifted_inside f b d (l ∷ ls) (Holder c s inner rest) (suc n) k j at holds o a on S =
      let out : LeadsNot g canvas S.0 = beside_here g canvas n l S.0 ls a (seen_inner (get g.nodes l) _ S.2) in
      let same : keys_at g S.0 ≡ S.1 = seen_keys (get g.boards S.0) _ S.3 in (
        S.0,
        S.1,
        seen_still l _ (o 0 l refl) S.2,
        board_still S.0 _ S.3,
        stands_aside S.0 (d + 1) S.1 inner (others_inside S.0 S.1 same (not_same g canvas S.0 out)) (aside_inside g canvas S.0 S.1 same out) S.4,
        shifted_inside f b d ls rest n k j at holds (others_next key l ls o) (beside_next g canvas n l ls a) on S.5,
      )

  pub shifted_canvas : (path : List ℕ) (c : ℕ) (holder : Option ℕ) (d : ℕ) (u : Tree) → sub_reached g (Some c) path ≡ Some canvas
      → CanvasAt g c holder d u → CanvasAt h c holder d (shifted_at path number x y u)
  shifted_canvas [] c holder d u on C =
      let here : c ≡ canvas = same_Some c canvas on in
      subst (λ z. CanvasAt h z holder d (shifted_box number x y u)) (sym here) (shifted_here holder d u (subst (λ z. CanvasAt g z holder d u) here C))
  shifted_canvas (n ∷ path) c holder d u on C =
      let s = subs g c n path canvas on in
      let same = keys_are g c holder d u C in
      record {
        keys = C.keys;
        board = board_still c _ C.board;
        stands = shifted_inside (change_at path (shifted_box number x y)) c d C.keys u.boxes n s.key s.inner (ap (λ (l : List ℕ). slice_get l n) (sym same) ∙ s.is)
            (sub_inner (get g.nodes s.key) s.inner s.sub)
            (others_inside c C.keys same (not_around g F c n path canvas (sub_leads g c canvas (n ∷ path) on)))
            (beside_on g c n path canvas C.keys F on same)
            (λ v D. shifted_canvas path s.inner (Some s.key) (d + 1) v s.on D) C.stands;
      }

  pub grove_shifted : (path : List ℕ) (t : Tree) → sub_reached g (Some g.root) path ≡ Some canvas → GroveStands g t.sheet t.boxes
      → GroveStands h (shifted_at path number x y t).sheet (shifted_at path number x y t).boxes
  grove_shifted path t on G =
      let u = shifted_at path number x y t in
      let C = shifted_canvas path g.root None 0 t on (record { keys = G.keys; board = G.root; stands = G.stands }) in
      record {
        keys = C.keys;
        root = ap (λ z. option_map board_seen (get h.boards z)) A.root ∙ C.board;
        stands = subst (λ z. Stands (get h.nodes) (get h.boards) z 0 C.keys u.boxes) (sym A.root) C.stands;
      }

-- What a save writes of a box that stands elsewhere.

-- a box of the new tree is one of the old, wherever it stands
record IsLike (a : Option Node) (n : Node) : Type 0 where
  node : Node
  was : a ≡ Some node
  kinds : n.kind ≡ node.kind
  states : n.state ≡ node.state

like_moved : (x y : ℤ) (o : Option Node) (n : Node) → option_map (at_place x y) o ≡ Some n → IsLike o n
like_moved x y None n e = absurd (none-some n e)
like_moved x y (Some m) n e =
    let same = same_Some (at_place x y m) n e in
    record { node = m; was = refl; kinds = sym (ap (λ (v : Node). v.kind) same); states = sym (ap (λ (v : Node). v.state) same) }

like_all : (g h : Grove) (key : ℕ) (x y : ℤ) → Alters g h key (at_place x y) → (k : ℕ) (n : Node) → get h.nodes k ≡ Some n → IsLike (get g.nodes k) n
like_all g h key x y A k n e = ⊎_elim
    (λ (same : k ≡ key). subst (λ j. IsLike (get g.nodes j) n) (sym same) (like_moved x y (get g.nodes key) n (sym A.box ∙ ap (λ j. get h.nodes j) (sym same) ∙ e)))
    (λ (d : k ≢ key). record { node = n; was = sym (A.others k d) ∙ e; kinds = refl; states = refl })
    (cases_eq k key)

still_savable : (g h : Grove) (key : ℕ) (x y : ℤ) → Alters g h key (at_place x y) → AreSavable (get g.nodes) → AreSavable (get h.nodes)
still_savable g h key x y A S = record {
  toggles = λ k n e. let L = like_all g h key x y A k n e in
      subst (λ (z : Kind). TurnsWhole z n.state) (sym L.kinds) (subst (λ (z : Option State). TurnsWhole L.node.kind z) (sym L.states) (S.toggles k L.node L.was));
  canvases = λ k n head e c. let L = like_all g h key x y A k n e in
      ap (λ (z : Option State). present_head z head) L.states ∙ S.canvases k L.node head L.was (sym L.kinds ∙ c);
}

pub runs_shifted : (p q : Patch) (path : List ℕ) (number : ℕ) (x y : ℤ) (b : MovedBox) (t : Tree) → MovesBox p q path number x y b → CanPut p → RunsAs p.grove t
    → RunsAs q.grove (shifted_at path number x y t)
runs_shifted p q path number x y b t M C R =
    let g = p.grove in
    let h = q.grove in
    let u = shifted_at path number x y t in
    let at = is_moving g number (sub_reached g (Some g.root) path) b.canvas b.key M.is in
    let A = box_alters p q b.canvas b.key x y M.shifts in
    let G = grove_shifted g h b.canvas b.key number x y C.forest at.is A path t at.leads R.stands in
    let H = forest_then p q b.canvas b.key x y C.forest number at.is M.shifts in
    record {
      stands = G;
      shallow = plain (deep u.boxes) (deep_within (get h.nodes) (get h.boards) h.root 0 G.keys u.boxes H.shallow G.stands (omega arith));
      savable = still_savable g h b.key x y A R.savable;
    }
  where
    plain : (n : ℕ) → n + 0 ≤ 256 → n ≤ 256
    plain n h = omega (arith, h)
