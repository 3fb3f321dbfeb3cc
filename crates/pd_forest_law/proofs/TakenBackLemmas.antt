-- A box that came with all that lies in it, seen from the end: taken out again, it leaves what was.
use Rattle.std.proofs.Common.{◌≡◌, ◌≢◌, ℕ, zero, suc, ◌+◌, List, ◌∷◌, ◌++◌, Option, Some, None, IsSome, inl, inr, refl, sym, ap, ◌∙◌, subst, arith}
use Rattle.std.specs.Prelude.{option_and_then, slice_get, ◌⊎◌}
use mathlib.Core.Logic.{⊎_elim}
use Rattle.std.proofs.lemmas.Bool.{cases_eq}
use Rattle.std.proofs.lemmas.Option.{none-some, same_Some}
use Rattle.pd_tree.specs.declared.rows.Sheet.{Sheet}
use Rattle.pd_grove.specs.declared.nodes.Node.{Node}
use Rattle.pd_grove.specs.declared.boards.Board.{Board}
use Rattle.pd_grove.specs.Standing.{depth_of}
use Rattle.pd_grove.specs.Telling.{inner_in, keys_in}
use Rattle.pd_grove.specs.Owning.{board_in}
use Rattle.pd_grove.specs.Forest.{holder_in, IsForest, around, out_of}
use Rattle.pd_grove.specs.Grafts.{HasPartMore, LiesInBox, TakesBox, sheet_in}
use Rattle.pd_grove.proofs.ForestLemmas.{box_there, live_board}
use Rattle.pd_grove.proofs.NestLemmas.{board_there, node_there}
use Rattle.pd_grove.proofs.GraftLemmas.{is_some}
use Rattle.pd_grove.proofs.PruneLemmas.{below_box}
use Rattle.pd_forest_law.proofs.PartLemmas.{forest_part}

none_or_some : {A : Type 0} (o : Option A) → (o ≡ None) ⊎ IsSome o
none_or_some None = inl refl
none_or_some (Some a) = inr refl

not_both : {A : Type 0} (o : Option A) → o ≡ None → IsSome o → ⊥
not_both None e h = absurd (cc)
not_both (Some a) e h = absurd (none-some a (sym e))

holds_some : (o : Option Node) (x : ℕ) → inner_in o ≡ Some x → IsSome o
holds_some None x h = absurd (none-some x h)
holds_some (Some n) x h = refl

-- what lies in a canvas that came has come
record HasCome (n n' : ℕ → Option Node) (b b' : ℕ → Option Board) (root c k : ℕ) (before behind : List ℕ) : Type 0 where
  part : HasPartMore n n' b b' c k before behind
  was : IsForest n b root
  is : IsForest n' b' root

came_inside : (n n' : ℕ → Option Node) (b b' : ℕ → Option Board) (root c k : ℕ) (before behind : List ℕ) → HasCome n n' b b' root c k before behind
    → (z y : ℕ) → around n' b' z ≡ Some y → b y ≡ None → b z ≡ None
came_inside n n' b b' root c k before behind H z y h new = ⊎_elim (λ (e : b z ≡ None). e) (λ (s : IsSome (b z)). by s (holder_in (b' z)) refl h) (none_or_some (b z))
  where
    holder : IsSome (b z) → holder_in (b' z) ≡ holder_in (b z)
    holder s = ⊎_elim (λ (e : z ≡ c). ap (λ v. holder_in (b' v)) e ∙ H.part.holder ∙ ap (λ v. holder_in (b v)) (sym e)) (λ (d : z ≢ c). ap holder_in (H.part.canvases_stay z d s)) (cases_eq z c)

    by : IsSome (b z) → (o : Option ℕ) → holder_in (b' z) ≡ o → option_and_then (λ v. board_in (n' v)) o ≡ Some y → b z ≡ None
    by s None e q = absurd (none-some y q)
    by s (Some l) e q =
        let held = H.was.held z l (sym (holder s) ∙ e) in
        let stays = H.part.boxes_stay l (holds_some (n l) z held) in
        let P = H.was.placed l y (sym (ap board_in stays) ∙ q) in
        let B = board_there (b y) P.0 l P.1 in
        absurd (not_both (b y) new (is_some (b y) B.0 B.1))

came_below : (n n' : ℕ → Option Node) (b b' : ℕ → Option Board) (root c k : ℕ) (before behind : List ℕ) → HasCome n n' b b' root c k before behind
    → (m x y : ℕ) → out_of n' b' m x ≡ Some y → b y ≡ None → b x ≡ None
came_below n n' b b' root c k before behind H zero x y h new = ap b (same_Some x y h) ∙ new
came_below n n' b b' root c k before behind H (suc m) x y h new = by (λ z. came_below n n' b b' root c k before behind H m x z) (out_of n' b' m x) refl h
  where
    by : ((z : ℕ) → out_of n' b' m x ≡ Some z → b z ≡ None → b x ≡ None) → (o : Option ℕ) → out_of n' b' m x ≡ o → option_and_then (around n' b') o ≡ Some y → b x ≡ None
    by rec None e q = absurd (none-some y q)
    by rec (Some z) e q = rec z e (came_inside n n' b b' root c k before behind H z y q new)

-- a canvas that came lies in the box that came, if those around it do
lies_by : (n n' : ℕ → Option Node) (b b' : ℕ → Option Board) (root c k : ℕ) (before behind : List ℕ) → HasCome n n' b b' root c k before behind
    → (x : ℕ) → b x ≡ None → IsSome (b' x) → ((z : ℕ) → suc (depth_of (b' z)) ≡ depth_of (b' x) → b z ≡ None → IsSome (b' z) → LiesInBox n' b' k z) → LiesInBox n' b' k x
lies_by n n' b b' root c k before behind H x new live rec = by (holder_in (b' x)) refl
  where
    held_new : (l : ℕ) → inner_in (n' l) ≡ Some x → n l ≡ None
    held_new l h = ⊎_elim (λ (e : n l ≡ None). e)
        (λ (s : IsSome (n l)). let q = H.was.inside l x (sym (ap inner_in (H.part.boxes_stay l s)) ∙ h) in absurd (none-some l (sym (ap holder_in new) ∙ q))) (none_or_some (n l))

    by : (o : Option ℕ) → holder_in (b' x) ≡ o → LiesInBox n' b' k x
    by None h = absurd (H.part.closed x new live h)
    by (Some l) h =
        let holds = H.part.held x l new h in
        let fresh = held_new l holds in
        ⊎_elim (λ (i : l ≡ k). (x, ap (λ v. inner_in (n' v)) (sym i) ∙ holds, (zero, refl)))
        (λ (i : l ≢ k).
        let N = node_there (n' l) x holds in
        let y = N.0.board in
        let lies : board_in (n' l) ≡ Some y = ap board_in N.1 in
        let P = H.part.placed l y fresh i lies in
        let B = board_there (b' y) P.1 l P.2 in
        let deeper = H.part.deeper l y x fresh lies holds in
        below_box n' b' root k y x H.is (ap (option_and_then (λ v. board_in (n' v))) h ∙ lies) (rec y (omega (arith, deeper)) P.0 (is_some (b' y) B.0 B.1))) (cases_eq l k)

lies_in_new : (n n' : ℕ → Option Node) (b b' : ℕ → Option Board) (root c k : ℕ) (before behind : List ℕ) → HasCome n n' b b' root c k before behind
    → (d x : ℕ) → depth_of (b' x) ≡ d → b x ≡ None → IsSome (b' x) → LiesInBox n' b' k x
lies_in_new n n' b b' root c k before behind H zero x deep new live = lies_by n n' b b' root c k before behind H x new live (λ z e v s. absurd (omega (arith, e, deep)))
lies_in_new n n' b b' root c k before behind H (suc d) x deep new live =
    lies_by n n' b b' root c k before behind H x new live (λ z e v s. lies_in_new n n' b b' root c k before behind H d z (omega (arith, e, deep)) v s)

pub taken_back : (n n' : ℕ → Option Node) (b b' : ℕ → Option Board) (root c k : ℕ) (x : Node) (before behind : List ℕ) → HasPartMore n n' b b' c k before behind → IsForest n b root
    → n' k ≡ Some x → TakesBox n' n b' b c k x before behind
taken_back n n' b b' root c k x before behind M F is =
    let H : HasCome n n' b b' root c k before behind = record { part = M; was = F; is = forest_part n n' b b' root c k before behind M F } in
    let C = live_board (b' c) M.lives in
    let D = live_board (b c) M.live in
    let go : (y : ℕ) → LiesInBox n' b' k y → b y ≡ None = (λ y L. came_below n n' b b' root c k before behind H L.2.0 y L.0 L.2.1 (M.inside k L.0 M.vacant L.1).0) in
    let dead : (y l : ℕ) → b y ≡ None → board_in (n l) ≡ Some y → ⊥ = (λ y l new h.
    let P = F.placed l y h in let B = board_there (b y) P.0 l P.1 in not_both (b y) new (is_some (b y) B.0 B.1)) in
    record {
      was = is;
      lay = same_Some x.board c (sym (ap board_in is) ∙ M.lies);
      gone = M.vacant;
      old = C.0;
      new = D.0;
      board = C.1;
      without = D.1;
      holder = sym (ap holder_in D.1) ∙ sym M.holder ∙ ap holder_in C.1;
      depth = sym (ap depth_of D.1) ∙ sym M.depth ∙ ap depth_of C.1;
      sheet = same_Some D.0.sheet C.0.sheet (sym (ap sheet_in D.1) ∙ sym M.sheet ∙ ap sheet_in C.1);
      had = sym (ap keys_in C.1) ∙ M.has;
      has = sym (ap keys_in D.1) ∙ M.had;
      boards_go = go;
      nodes_go = λ l y h L. ⊎_elim (λ (e : n l ≡ None). e)
          (λ (s : IsSome (n l)). absurd (dead y l (go y L) (sym (ap board_in (M.boxes_stay l s)) ∙ h))) (none_or_some (n l));
      boards_stay = λ y d out. ⊎_elim
          (λ (e : b y ≡ None). ⊎_elim (λ (v : b' y ≡ None). e ∙ sym v)
          (λ (s : IsSome (b' y)). absurd (out (lies_in_new n n' b b' root c k before behind H (depth_of (b' y)) y refl e s))) (none_or_some (b' y)))
          (λ (s : IsSome (b y)). sym (M.canvases_stay y d s)) (none_or_some (b y));
      nodes_stay = λ l y d h out. ⊎_elim
          (λ (e : n l ≡ None). let P = M.placed l y e d h in let B = board_there (b' y) P.1 l P.2 in
          absurd (out (lies_in_new n n' b b' root c k before behind H (depth_of (b' y)) y refl P.0 (is_some (b' y) B.0 B.1))))
          (λ (s : IsSome (n l)). sym (M.boxes_stay l s)) (none_or_some (n l));
      none_comes = λ l s. sym (M.boxes_stay l s);
      no_canvas_comes = λ y d s. sym (M.canvases_stay y d s);
    }
