-- Another box in one canvas, and the tree that stands.
use Rattle.std.proofs.Common.{◌≡◌, ◌≢◌, ℕ, zero, suc, ◌+◌, ◌<◌, ◌≤◌, List, [], ◌∷◌, slice_get, Option, Some, None, refl, sym, ap, ◌∙◌, subst, arith}
use Rattle.std.specs.Prelude.{option_map}
use Rattle.std.proofs.lemmas.Option.{none-some, same_Some}
use mathlib.Core.Logic.{⊎_elim}
use Rattle.std.proofs.lemmas.Bool.{cases_eq}
use Rattle.slab.specs.Slab.{Slab, get}
use Rattle.pd_clock.specs.declared.times.Rate.{Rate}
use Rattle.pd_kind.specs.States.{start_of}
use Rattle.pd_kind.specs.Tables.{started}
use Rattle.pd_tree.specs.Trees.{Trees, Done, Leaf, Holder, Tree}
use Rattle.pd_grove.specs.declared.nodes.Node.{Node}
use Rattle.pd_grove.specs.declared.boards.Board.{Board}
use Rattle.pd_grove.specs.declared.grove.Grove.{Grove}
use Rattle.pd_grove.specs.OwnPaths.{sub_reached}
use Rattle.pd_grove.specs.Standing.{BoardSeen, board_seen, depth_of, Stands, GroveStands}
use Rattle.pd_grove.specs.Telling.{inner_in}
use Rattle.pd_grove.specs.TextOrder.{deep}
use Rattle.pd_grove.proofs.PlaceLemmas.{seen_keys}
use Rattle.pd_web.specs.Canvases.{keys_at}
use Rattle.pd_present.specs.Contents.{present_head}
use Rattle.pd_regrowth_law.specs.Canvases.{canvas_with}
use Rattle.pd_reload_law.specs.Reloading.{RunsAs}
use Rattle.pd_reload_law.specs.Saving.{AreSavable, TurnsWhole}
use Rattle.pd_reload_law.proofs.EditLemmas.{sub_inner}
use Rattle.pd_reload_law.proofs.FreshLemmas.{fresh_savable}
use Rattle.pd_putting_law.specs.Puts.{change_inside, change_at}
use Rattle.pd_putting_law.proofs.PathLemmas.{subs, sub_leads, LeadsNot, not_same, not_around}
use Rattle.pd_putting_law.proofs.StandLemmas.{seen_inner, CanvasAt, keys_are, AreAside, AreBeside, aside_next, beside_first, beside_next, beside_here, aside_inside, aside_here, beside_on, deep_within}
use Rattle.pd_retyping_law.specs.Retypes.{boxes_with, retyped_box, retyped_at}
use Rattle.pd_retyping_law.specs.Retyping.{RetypesBoxAt, RenamesBoxAt, ChangesBoxAt, KeepsFirst, cell_in}
use Rattle.pd_retyping_law.proofs.PlaceLemmas.{AreOthers, AreOthersBut, others_next, but_first, but_next, but_here, others_in, others_here, is_here, now_seen, seen_still, retypes_so, renames_so}

module _ (g h : Grove) (path₀ : List ℕ) (canvas key number : ℕ) (n n' : Node) (B : ChangesBoxAt g h path₀ canvas key number n n') where
  board_still : (j : ℕ) (z : BoardSeen) → option_map board_seen (get g.boards j) ≡ Some z → option_map board_seen (get h.boards j) ≡ Some z
  board_still j z e = ap (λ (s : Slab Board). option_map board_seen (get s j)) B.boards ∙ e

  stands_aside : (b d : ℕ) (keys : List ℕ) (t : Trees) → AreOthers key keys → AreAside g canvas keys → Stands (get g.nodes) (get g.boards) b d keys t
      → Stands (get h.nodes) (get h.boards) b d keys t
  stands_aside b d [] Done o a S = tt
  stands_aside b d (k ∷ ks) Done o a S = absurd S
  stands_aside b d [] (Leaf c rest) o a S = absurd S
  stands_aside b d (k ∷ ks) (Leaf c rest) o a S =
      (seen_still g h path₀ canvas key number n n' B k _ (o 0 k refl) S.0, stands_aside b d ks rest (others_next key k ks o) (aside_next g canvas k ks a) S.1)
  stands_aside b d [] (Holder c s inner rest) o a S = absurd S
  stands_aside b d (k ∷ ks) (Holder c s inner rest) o a S =
      let out : LeadsNot g canvas S.0 = a 0 k S.0 refl (seen_inner (get g.nodes k) _ S.2) in
      let same : keys_at g S.0 ≡ S.1 = seen_keys (get g.boards S.0) _ S.3 in (
        S.0,
        S.1,
        seen_still g h path₀ canvas key number n n' B k _ (o 0 k refl) S.2,
        board_still S.0 _ S.3,
        stands_aside S.0 (d + 1) S.1 inner (others_in g h path₀ canvas key number n n' B S.0 S.1 same (not_same g canvas S.0 out)) (aside_inside g canvas S.0 S.1 same out) S.4,
        stands_aside b d ks rest (others_next key k ks o) (aside_next g canvas k ks a) S.5,
      )

  -- boxes among which it is
  stands_with : (b d : ℕ) (keys : List ℕ) (t : Trees) (m : ℕ) → slice_get keys m ≡ Some key → AreOthersBut key m keys → AreAside g canvas keys
      → Stands (get g.nodes) (get g.boards) b d keys t → Stands (get h.nodes) (get h.boards) b d keys (boxes_with m (cell_in n') t)
  stands_with b d [] t m at o a S = absurd (none-some key at)
  stands_with b d (k ∷ ks) Done m at o a S = absurd S
  stands_with b d (k ∷ ks) (Leaf c rest) zero at o a S =
      (now_seen g h path₀ canvas key number n n' B k _ (same_Some k key at) S.0, stands_aside b d ks rest (but_first key k ks o) (aside_next g canvas k ks a) S.1)
  stands_with b d (k ∷ ks) (Leaf c rest) (suc m) at o a S =
      (seen_still g h path₀ canvas key number n n' B k _ (but_here key m k ks o) S.0, stands_with b d ks rest m at (but_next key m k ks o) (aside_next g canvas k ks a) S.1)
  stands_with b d (k ∷ ks) (Holder c s inner rest) zero at o a S =
      let out : LeadsNot g canvas S.0 = a 0 k S.0 refl (seen_inner (get g.nodes k) _ S.2) in
      let same : keys_at g S.0 ≡ S.1 = seen_keys (get g.boards S.0) _ S.3 in (
        S.0,
        S.1,
        now_seen g h path₀ canvas key number n n' B k _ (same_Some k key at) S.2,
        board_still S.0 _ S.3,
        stands_aside S.0 (d + 1) S.1 inner (others_in g h path₀ canvas key number n n' B S.0 S.1 same (not_same g canvas S.0 out)) (aside_inside g canvas S.0 S.1 same out) S.4,
        stands_aside b d ks rest (but_first key k ks o) (aside_next g canvas k ks a) S.5,
      )
  stands_with b d (k ∷ ks) (Holder c s inner rest) (suc m) at o a S =
      let out : LeadsNot g canvas S.0 = a 0 k S.0 refl (seen_inner (get g.nodes k) _ S.2) in
      let same : keys_at g S.0 ≡ S.1 = seen_keys (get g.boards S.0) _ S.3 in (
        S.0,
        S.1,
        seen_still g h path₀ canvas key number n n' B k _ (but_here key m k ks o) S.2,
        board_still S.0 _ S.3,
        stands_aside S.0 (d + 1) S.1 inner (others_in g h path₀ canvas key number n n' B S.0 S.1 same (not_same g canvas S.0 out)) (aside_inside g canvas S.0 S.1 same out) S.4,
        stands_with b d ks rest m at (but_next key m k ks o) (aside_next g canvas k ks a) S.5,
      )

  canvas_here : (holder : Option ℕ) (d : ℕ) (u : Tree) → CanvasAt g canvas holder d u → CanvasAt h canvas holder d (retyped_box number (cell_in n') u)
  canvas_here holder d u C =
      let same = keys_are g canvas holder d u C in
      record {
        keys = C.keys;
        board = board_still canvas _ C.board;
        stands = stands_with canvas d C.keys u.boxes number (is_here g h path₀ canvas key number n n' B C.keys same)
            (others_here g h path₀ canvas key number n n' B C.keys same) (aside_here g canvas C.keys B.forest same) C.stands;
      }

  stands_inside : (f : Tree → Tree) (b d : ℕ) (keys : List ℕ) (t : Trees) (m k j : ℕ) → slice_get keys m ≡ Some k → inner_in (get g.nodes k) ≡ Some j
      → AreOthers key keys → AreBeside g canvas m keys → ((u : Tree) → CanvasAt g j (Some k) (d + 1) u → CanvasAt h j (Some k) (d + 1) (f u))
      → Stands (get g.nodes) (get g.boards) b d keys t → Stands (get h.nodes) (get h.boards) b d keys (change_inside m f t)
  stands_inside f b d [] t m k j at holds o a on S = absurd (none-some k at)
  stands_inside f b d (l ∷ ls) Done m k j at holds o a on S = absurd S
  stands_inside f b d (l ∷ ls) (Leaf c rest) zero k j at holds o a on S =
      (seen_still g h path₀ canvas key number n n' B l _ (o 0 l refl) S.0, stands_aside b d ls rest (others_next key l ls o) (beside_first g canvas l ls a) S.1)
  stands_inside f b d (l ∷ ls) (Leaf c rest) (suc m) k j at holds o a on S =
      (seen_still g h path₀ canvas key number n n' B l _ (o 0 l refl) S.0, stands_inside f b d ls rest m k j at holds (others_next key l ls o) (beside_next g canvas m l ls a) on S.1)
  stands_inside f b d (l ∷ ls) (Holder c s inner rest) zero k j at holds o a on S =
      let same : l ≡ k = same_Some l k at in
      let is : S.0 ≡ j = same_Some S.0 j (sym (seen_inner (get g.nodes l) _ S.2) ∙ ap (λ z. inner_in (get g.nodes z)) same ∙ holds) in
      let here = subst (λ z. (u : Tree) → CanvasAt g S.0 (Some z) (d + 1) u → CanvasAt h S.0 (Some z) (d + 1) (f u)) (sym same)
      (subst (λ z. (u : Tree) → CanvasAt g z (Some k) (d + 1) u → CanvasAt h z (Some k) (d + 1) (f u)) (sym is) on) in
      let C = here (canvas_with s inner) (record { keys = S.1; board = S.3; stands = S.4 }) in (
        S.0,
        C.keys,
        seen_still g h path₀ canvas key number n n' B l _ (o 0 l refl) S.2,
        C.board,
        C.stands,
        stands_aside b d ls rest (others_next key l ls o) (beside_first g canvas l ls a) S.5,
      )
  stands_inside f b d (l ∷ ls) (Holder c s inner rest) (suc m) k j at holds o a on S =
      let out : LeadsNot g canvas S.0 = beside_here g canvas m l S.0 ls a (seen_inner (get g.nodes l) _ S.2) in
      let same : keys_at g S.0 ≡ S.1 = seen_keys (get g.boards S.0) _ S.3 in (
        S.0,
        S.1,
        seen_still g h path₀ canvas key number n n' B l _ (o 0 l refl) S.2,
        board_still S.0 _ S.3,
        stands_aside S.0 (d + 1) S.1 inner (others_in g h path₀ canvas key number n n' B S.0 S.1 same (not_same g canvas S.0 out)) (aside_inside g canvas S.0 S.1 same out) S.4,
        stands_inside f b d ls rest m k j at holds (others_next key l ls o) (beside_next g canvas m l ls a) on S.5,
      )

  canvas_along : (path : List ℕ) (c : ℕ) (holder : Option ℕ) (d : ℕ) (u : Tree) → sub_reached g (Some c) path ≡ Some canvas
      → CanvasAt g c holder d u → CanvasAt h c holder d (retyped_at path number (cell_in n') u)
  canvas_along [] c holder d u on C =
      let here : c ≡ canvas = same_Some c canvas on in
      subst (λ z. CanvasAt h z holder d (retyped_box number (cell_in n') u)) (sym here) (canvas_here holder d u (subst (λ z. CanvasAt g z holder d u) here C))
  canvas_along (i ∷ path) c holder d u on C =
      let s = subs g c i path canvas on in
      let same = keys_are g c holder d u C in
      record {
        keys = C.keys;
        board = board_still c _ C.board;
        stands = stands_inside (change_at path (retyped_box number (cell_in n'))) c d C.keys u.boxes i s.key s.inner (ap (λ (l : List ℕ). slice_get l i) (sym same) ∙ s.is)
            (sub_inner (get g.nodes s.key) s.inner s.sub)
            (others_in g h path₀ canvas key number n n' B c C.keys same (not_around g B.forest c i path canvas (sub_leads g c canvas (i ∷ path) on)))
            (beside_on g c i path canvas C.keys B.forest on same)
            (λ v D. canvas_along path s.inner (Some s.key) (d + 1) v s.on D) C.stands;
      }

  -- ---- the tree

  pub grove_changed : (t : Tree) → GroveStands g t.sheet t.boxes
      → GroveStands h (retyped_at path₀ number (cell_in n') t).sheet (retyped_at path₀ number (cell_in n') t).boxes
  grove_changed t G =
      let u = retyped_at path₀ number (cell_in n') t in
      let C = canvas_along path₀ g.root None 0 t B.leads (record { keys = G.keys; board = G.root; stands = G.stands }) in
      record {
        keys = C.keys;
        root = ap (λ z. option_map board_seen (get h.boards z)) B.root ∙ C.board;
        stands = subst (λ z. Stands (get h.nodes) (get h.boards) z 0 C.keys u.boxes) (sym B.root) C.stands;
      }

  pub shallow_changed : (t : Tree) → GroveStands g t.sheet t.boxes → deep (retyped_at path₀ number (cell_in n') t).boxes ≤ 256
  shallow_changed t S =
      let u = retyped_at path₀ number (cell_in n') t in
      let G = grove_changed t S in
      plain (deep u.boxes) (deep_within (get h.nodes) (get h.boards) h.root 0 G.keys u.boxes
      (λ c. subst (λ (s : Slab Board). depth_of (get s c) < 257) (sym B.boards) (B.forest.shallow c)) G.stands (omega arith))
    where
      plain : (m : ℕ) → m + 0 ≤ 256 → m ≤ 256
      plain m e = omega (arith, e)

-- ---- another box without a canvas

module _ (g h : Grove) (path₀ : List ℕ) (canvas key number : ℕ) (n n' : Node) (B : RetypesBoxAt g h path₀ canvas key number n n') where
  there : ChangesBoxAt g h path₀ canvas key number n n'
  there = retypes_so g h path₀ canvas key number n n' B

  pub grove_retyped : (t : Tree) → GroveStands g t.sheet t.boxes
      → GroveStands h (retyped_at path₀ number (cell_in n') t).sheet (retyped_at path₀ number (cell_in n') t).boxes
  grove_retyped t G = grove_changed g h path₀ canvas key number n n' there t G

  -- the new box keeps what a save may write of it
  fresh_here : (rate : Rate) (now : ℕ) → KeepsFirst rate now n' → AreSavable (λ _. Some n')
  fresh_here rate now f =
      fresh_savable rate now (λ _. Some n') (λ k m e. subst (λ (x : Node). x.state ≡ Some (started (start_of x.kind rate) now)) (same_Some n' m e) f)

  savable_on : (rate : Rate) (now : ℕ) → KeepsFirst rate now n' → AreSavable (get g.nodes) → AreSavable (get h.nodes)
  savable_on rate now f S =
      let new = fresh_here rate now f in
      record {
        toggles = λ k m e. ⊎_elim (λ (same : k ≡ key). new.toggles k m (sym B.becomes ∙ ap (λ j. get h.nodes j) (sym same) ∙ e))
            (λ (d : k ≢ key). S.toggles k m (sym (B.others k d) ∙ e)) (cases_eq k key);
        canvases = λ k m x e c. ⊎_elim (λ (same : k ≡ key). new.canvases k m x (sym B.becomes ∙ ap (λ j. get h.nodes j) (sym same) ∙ e) c)
            (λ (d : k ≢ key). S.canvases k m x (sym (B.others k d) ∙ e) c) (cases_eq k key);
      }

  pub runs_retyped : (t : Tree) (rate : Rate) (now : ℕ) → RunsAs g t → KeepsFirst rate now n' → RunsAs h (retyped_at path₀ number (cell_in n') t)
  runs_retyped t rate now R f = record {
    stands = grove_retyped t R.stands;
    shallow = shallow_changed g h path₀ canvas key number n n' there t R.stands;
    savable = savable_on rate now f R.savable;
  }

-- ---- a subpatch with another text

module _ (g h : Grove) (path₀ : List ℕ) (canvas key number : ℕ) (n n' : Node) (B : RenamesBoxAt g h path₀ canvas key number n n') where
  pub grove_renamed : (t : Tree) → GroveStands g t.sheet t.boxes
      → GroveStands h (retyped_at path₀ number (cell_in n') t).sheet (retyped_at path₀ number (cell_in n') t).boxes
  grove_renamed t G = grove_changed g h path₀ canvas key number n n' (renames_so g h path₀ canvas key number n n' B) t G

  -- it keeps what it kept
  savable_still : AreSavable (get g.nodes) → AreSavable (get h.nodes)
  savable_still S = record {
    toggles = λ k m e. ⊎_elim
        (λ (same : k ≡ key).
        let is : n' ≡ m = same_Some n' m (sym B.becomes ∙ ap (λ j. get h.nodes j) (sym same) ∙ e) in
        subst (λ (x : Node). TurnsWhole x.kind x.state) is
        (subst (λ x. TurnsWhole x n'.state) (sym B.kind) (subst (TurnsWhole n.kind) (sym B.state) (S.toggles key n B.was))))
        (λ (d : k ≢ key). S.toggles k m (sym (B.others k d) ∙ e)) (cases_eq k key);
    canvases = λ k m x e c. ⊎_elim
        (λ (same : k ≡ key).
        let is : n' ≡ m = same_Some n' m (sym B.becomes ∙ ap (λ j. get h.nodes j) (sym same) ∙ e) in
        ap (λ s. present_head s x) (sym (ap (λ (y : Node). y.state) is) ∙ B.state)
        ∙ S.canvases key n x B.was (sym B.kind ∙ ap (λ (y : Node). y.kind) is ∙ c))
        (λ (d : k ≢ key). S.canvases k m x (sym (B.others k d) ∙ e) c) (cases_eq k key);
  }

  pub runs_renamed : (t : Tree) → RunsAs g t → RunsAs h (retyped_at path₀ number (cell_in n') t)
  runs_renamed t R = record {
    stands = grove_renamed t R.stands;
    shallow = shallow_changed g h path₀ canvas key number n n' (renames_so g h path₀ canvas key number n n' B) t R.stands;
    savable = savable_still R.savable;
  }
