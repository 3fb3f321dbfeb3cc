-- A box less in one canvas, and the tree that stands.
use Rattle.std.proofs.Common.{◌≡◌, ◌≢◌, ℕ, zero, suc, ◌+◌, ◌≤◌, List, [], ◌∷◌, slice_get, Option, Some, None, IsSome, refl, sym, ap, ◌∙◌, subst, arith}
use Rattle.std.specs.Prelude.{remove, option_map}
use Rattle.std.proofs.lemmas.Option.{none-some, same_Some}
use Rattle.slab.specs.Slab.{get}
use Rattle.pd_tree.specs.declared.rows.Sheet.{Sheet}
use Rattle.pd_tree.specs.Trees.{Trees, Done, Leaf, Holder, Tree}
use Rattle.pd_grove.specs.declared.nodes.Node.{Node}
use Rattle.pd_grove.specs.declared.boards.Board.{Board}
use Rattle.pd_grove.specs.declared.grove.Grove.{Grove}
use Rattle.pd_grove.specs.Forest.{holder_in}
use Rattle.pd_grove.specs.Grafts.{sheet_in}
use Rattle.pd_grove.specs.OwnPaths.{sub_reached}
use Rattle.pd_grove.specs.Standing.{NodeSeen, node_seen, BoardSeen, board_seen, depth_of, Stands, GroveStands}
use Rattle.pd_grove.specs.Telling.{inner_in}
use Rattle.pd_grove.specs.TextOrder.{deep}
use Rattle.pd_grove.proofs.GraftLemmas.{is_some}
use Rattle.pd_grove.proofs.PlaceLemmas.{seen_keys}
use Rattle.pd_web.specs.Canvases.{keys_at}
use Rattle.pd_regrowth_law.specs.Canvases.{canvas_with}
use Rattle.pd_reload_law.specs.Reloading.{RunsAs}
use Rattle.pd_reload_law.proofs.EditLemmas.{sub_inner}
use Rattle.pd_putting_law.specs.Puts.{change_inside, change_at}
use Rattle.pd_putting_law.proofs.PathLemmas.{Forest, subs, sub_leads, live_box, live_canvas, LeadsNot, not_same, not_around}
use Rattle.pd_putting_law.proofs.StandLemmas.{seen_inner, seen_more, CanvasAt, keys_are, AreAside, AreBeside, aside_next, beside_first, beside_next, beside_here, aside_inside, aside_here, beside_on, deep_within}
use Rattle.pd_taking_law.specs.Takes.{boxes_less, less_box, taken_at}
use Rattle.pd_taking_law.specs.Taking.{TakesBoxAt}
use Rattle.pd_taking_law.proofs.StayLemmas.{forest_still, box_still, canvas_still, keys_less, leads_from_root}

-- without one of them boxes stand
pub stands_less : (nodes : ℕ → Option Node) (boards : ℕ → Option Board) (b d : ℕ) (keys : List ℕ) (t : Trees) (n k : ℕ) → slice_get keys n ≡ Some k
    → Stands nodes boards b d keys t → Stands nodes boards b d (remove keys n) (boxes_less n t)
stands_less nodes boards b d [] t n k at S = absurd (none-some k at)
stands_less nodes boards b d (l ∷ ls) Done n k at S = absurd S
stands_less nodes boards b d (l ∷ ls) (Leaf c rest) zero k at S = S.1
stands_less nodes boards b d (l ∷ ls) (Leaf c rest) (suc n) k at S = (S.0, stands_less nodes boards b d ls rest n k at S.1)
stands_less nodes boards b d (l ∷ ls) (Holder c s inner rest) zero k at S = S.5
stands_less nodes boards b d (l ∷ ls) (Holder c s inner rest) (suc n) k at S =
    (S.0, S.1, S.2, S.3, S.4, stands_less nodes boards b d ls rest n k at S.5)

-- the boxes of these keys live
abbrev pub AreLive : Grove → List ℕ → Type 0
AreLive h keys = (i k : ℕ) → slice_get keys i ≡ Some k → IsSome (get h.nodes k)

pub live_next : (h : Grove) (k : ℕ) (ks : List ℕ) → AreLive h (k ∷ ks) → AreLive h ks
live_next h k ks l i x e = l (suc i) x e

pub live_inside : (h : Grove) (c : ℕ) (keys : List ℕ) → Forest h → keys_at h c ≡ keys → AreLive h keys
live_inside h c keys H same i k e = live_box h H c i k (ap (λ l. slice_get l i) same ∙ e)

-- ---- two groves

module _ (g h : Grove) (path₀ : List ℕ) (canvas key number : ℕ) (B : TakesBoxAt g h path₀ canvas key number) (H : Forest h) where
  seen_still : (k : ℕ) (x : NodeSeen) → IsSome (get h.nodes k) → option_map node_seen (get g.nodes k) ≡ Some x → option_map node_seen (get h.nodes k) ≡ Some x
  seen_still k x live e = ap (option_map node_seen) (box_still g h path₀ canvas key number B k live) ∙ e

  pub inner_still : (k j : ℕ) (x : NodeSeen) → IsSome (get h.nodes k) → option_map node_seen (get g.nodes k) ≡ Some x → x.inner ≡ Some j → inner_in (get h.nodes k) ≡ Some j
  inner_still k j x live e holds = seen_inner (get h.nodes k) x (seen_still k x live e) ∙ holds

  board_still : (j : ℕ) (x : BoardSeen) → j ≢ canvas → IsSome (get h.boards j) → option_map board_seen (get g.boards j) ≡ Some x
      → option_map board_seen (get h.boards j) ≡ Some x
  board_still j x apart live e = ap (option_map board_seen) (canvas_still g h path₀ canvas key number B j apart live) ∙ e

  pub stands_aside : (b d : ℕ) (keys : List ℕ) (t : Trees) → AreLive h keys → AreAside h canvas keys → Stands (get g.nodes) (get g.boards) b d keys t
      → Stands (get h.nodes) (get h.boards) b d keys t
  stands_aside b d [] Done l a S = tt
  stands_aside b d (k ∷ ks) Done l a S = absurd S
  stands_aside b d [] (Leaf c rest) l a S = absurd S
  stands_aside b d (k ∷ ks) (Leaf c rest) l a S =
      (seen_still k _ (l 0 k refl) S.0, stands_aside b d ks rest (live_next h k ks l) (aside_next h canvas k ks a) S.1)
  stands_aside b d [] (Holder c s inner rest) l a S = absurd S
  stands_aside b d (k ∷ ks) (Holder c s inner rest) l a S =
      let live = l 0 k refl in
      let holds : inner_in (get h.nodes k) ≡ Some S.0 = inner_still k S.0 _ live S.2 refl in
      let out : LeadsNot h canvas S.0 = a 0 k S.0 refl holds in
      let board = board_still S.0 _ (not_same h canvas S.0 out) (live_canvas h H k S.0 holds) S.3 in
      let same : keys_at h S.0 ≡ S.1 = seen_keys (get h.boards S.0) _ board in (
        S.0,
        S.1,
        seen_still k _ live S.2,
        board,
        stands_aside S.0 (d + 1) S.1 inner (live_inside h S.0 S.1 H same) (aside_inside h canvas S.0 S.1 same out) S.4,
        stands_aside b d ks rest (live_next h k ks l) (aside_next h canvas k ks a) S.5,
      )

  pub has_less : (ks : List ℕ) → keys_at g canvas ≡ ks → keys_at h canvas ≡ remove ks number
  has_less ks same = keys_less g h path₀ canvas key number B ∙ ap (λ (l : List ℕ). remove l number) same

  pub has_key : (ks : List ℕ) → keys_at g canvas ≡ ks → slice_get ks number ≡ Some key
  has_key ks same = ap (λ (l : List ℕ). slice_get l number) (sym same) ∙ B.is

  taken_here : (holder : Option ℕ) (d : ℕ) (u : Tree) → CanvasAt g canvas holder d u → CanvasAt h canvas holder d (less_box number u)
  taken_here holder d u C =
      let T = B.takes in
      let same = keys_are g canvas holder d u C in
      let has = has_less C.keys same in
      record {
        keys = remove C.keys number;
        board = seen_more (get g.boards canvas) (get h.boards canvas) _ (remove C.keys number) C.board (is_some (get h.boards canvas) T.new T.without)
            (ap holder_in T.without ∙ T.holder ∙ sym (ap holder_in T.board)) (ap depth_of T.without ∙ T.depth ∙ sym (ap depth_of T.board))
            (ap sheet_in T.without ∙ ap (λ (s : Sheet). Some s) T.sheet ∙ sym (ap sheet_in T.board)) has;
        stands = stands_aside canvas d (remove C.keys number) (boxes_less number u.boxes) (live_inside h canvas (remove C.keys number) H has)
            (aside_here h canvas (remove C.keys number) H has)
            (stands_less (get g.nodes) (get g.boards) canvas d C.keys u.boxes number key (has_key C.keys same) C.stands);
      }

  taken_inside : (f : Tree → Tree) (b d : ℕ) (keys : List ℕ) (t : Trees) (n k j : ℕ) → slice_get keys n ≡ Some k → inner_in (get h.nodes k) ≡ Some j
      → AreLive h keys → AreBeside h canvas n keys → ((u : Tree) → CanvasAt g j (Some k) (d + 1) u → CanvasAt h j (Some k) (d + 1) (f u))
      → Stands (get g.nodes) (get g.boards) b d keys t → Stands (get h.nodes) (get h.boards) b d keys (change_inside n f t)
  taken_inside f b d [] t n k j at holds v a on S = absurd (none-some k at)
  taken_inside f b d (l ∷ ls) Done n k j at holds v a on S = absurd S
  taken_inside f b d (l ∷ ls) (Leaf c rest) zero k j at holds v a on S =
      (seen_still l _ (v 0 l refl) S.0, stands_aside b d ls rest (live_next h l ls v) (beside_first h canvas l ls a) S.1)
  taken_inside f b d (l ∷ ls) (Leaf c rest) (suc n) k j at holds v a on S =
      (seen_still l _ (v 0 l refl) S.0, taken_inside f b d ls rest n k j at holds (live_next h l ls v) (beside_next h canvas n l ls a) on S.1)
  taken_inside f b d (l ∷ ls) (Holder c s inner rest) zero k j at holds v a on S =
      let live = v 0 l refl in
      let same : l ≡ k = same_Some l k at in
      let is : S.0 ≡ j = same_Some S.0 j (sym (inner_still l S.0 _ live S.2 refl) ∙ ap (λ x. inner_in (get h.nodes x)) same ∙ holds) in
      let here = subst (λ x. (u : Tree) → CanvasAt g S.0 (Some x) (d + 1) u → CanvasAt h S.0 (Some x) (d + 1) (f u)) (sym same)
      (subst (λ x. (u : Tree) → CanvasAt g x (Some k) (d + 1) u → CanvasAt h x (Some k) (d + 1) (f u)) (sym is) on) in
      let C = here (canvas_with s inner) (record { keys = S.1; board = S.3; stands = S.4 }) in
      (S.0, C.keys, seen_still l _ live S.2, C.board, C.stands, stands_aside b d ls rest (live_next h l ls v) (beside_first h canvas l ls a) S.5)
  taken_inside f b d (l ∷ ls) (Holder c s inner rest) (suc n) k j at holds v a on S =
      let live = v 0 l refl in
      let inside : inner_in (get h.nodes l) ≡ Some S.0 = inner_still l S.0 _ live S.2 refl in
      let out : LeadsNot h canvas S.0 = beside_here h canvas n l S.0 ls a inside in
      let board = board_still S.0 _ (not_same h canvas S.0 out) (live_canvas h H l S.0 inside) S.3 in
      let same : keys_at h S.0 ≡ S.1 = seen_keys (get h.boards S.0) _ board in (
        S.0,
        S.1,
        seen_still l _ live S.2,
        board,
        stands_aside S.0 (d + 1) S.1 inner (live_inside h S.0 S.1 H same) (aside_inside h canvas S.0 S.1 same out) S.4,
        taken_inside f b d ls rest n k j at holds (live_next h l ls v) (beside_next h canvas n l ls a) on S.5,
      )

  pub taken_canvas : (path : List ℕ) (c : ℕ) (holder : Option ℕ) (d : ℕ) (u : Tree) → IsSome (get h.boards c) → sub_reached h (Some c) path ≡ Some canvas
      → CanvasAt g c holder d u → CanvasAt h c holder d (taken_at path number u)
  taken_canvas [] c holder d u live on C =
      let here : c ≡ canvas = same_Some c canvas on in
      subst (λ x. CanvasAt h x holder d (less_box number u)) (sym here) (taken_here holder d u (subst (λ x. CanvasAt g x holder d u) here C))
  taken_canvas (n ∷ path) c holder d u live on C =
      let s = subs h c n path canvas on in
      let board = board_still c _ (not_around h H c n path canvas (sub_leads h c canvas (n ∷ path) on)) live C.board in
      let same : keys_at h c ≡ C.keys = seen_keys (get h.boards c) _ board in
      let holds = sub_inner (get h.nodes s.key) s.inner s.sub in
      record {
        keys = C.keys;
        board = board;
        stands = taken_inside (change_at path (less_box number)) c d C.keys u.boxes n s.key s.inner (ap (λ (l : List ℕ). slice_get l n) (sym same) ∙ s.is) holds
            (live_inside h c C.keys H same) (beside_on h c n path canvas C.keys H on same)
            (λ v D. taken_canvas path s.inner (Some s.key) (d + 1) v (live_canvas h H s.key s.inner holds) s.on D) C.stands;
      }

-- ---- the tree

pub grove_less : (g h : Grove) (path : List ℕ) (canvas key number : ℕ) (t : Tree) → TakesBoxAt g h path canvas key number → GroveStands g t.sheet t.boxes
    → GroveStands h (taken_at path number t).sheet (taken_at path number t).boxes
grove_less g h path canvas key number t B G =
    let H = forest_still g h path canvas key number B in
    let u = taken_at path number t in
    let C = taken_canvas g h path canvas key number B H path h.root None 0 t H.rooted.0 (leads_from_root g h path canvas key number B)
    (subst (λ x. CanvasAt g x None 0 t) (sym B.root) (record { keys = G.keys; board = G.root; stands = G.stands })) in
    record { keys = C.keys; root = C.board; stands = C.stands }

pub runs_less : (g h : Grove) (path : List ℕ) (canvas key number : ℕ) (t : Tree) → TakesBoxAt g h path canvas key number → RunsAs g t
    → RunsAs h (taken_at path number t)
runs_less g h path canvas key number t B R =
    let u = taken_at path number t in
    let G = grove_less g h path canvas key number t B R.stands in
    let H = forest_still g h path canvas key number B in
    let was : (k : ℕ) (n : Node) → get h.nodes k ≡ Some n → get g.nodes k ≡ Some n =
    (λ k n e. sym (box_still g h path canvas key number B k (subst IsSome (sym e) refl)) ∙ e) in
    record {
      stands = G;
      shallow = plain (deep u.boxes) (deep_within (get h.nodes) (get h.boards) h.root 0 G.keys u.boxes H.shallow G.stands (omega arith));
      savable = record { toggles = λ k n e. R.savable.toggles k n (was k n e); canvases = λ k n x e c. R.savable.canvases k n x (was k n e) c };
    }
  where
    plain : (n : ℕ) → n + 0 ≤ 256 → n ≤ 256
    plain n h = omega (arith, h)
