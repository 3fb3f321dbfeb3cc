-- The boxes of a tree in text order without a box and all that lies in it.
use Rattle.std.proofs.Common.{◌≡◌, ◌≢◌, ℕ, zero, suc, ◌+◌, Bool, true, false, not, cond, ◌&&◌, List, [], ◌∷◌, ◌++◌, append_assoc, length, Option, Some, None, refl, sym, ap, ◌∙◌, subst, arith}
use Rattle.std.specs.Prelude.{option_and_then, slice_get}
use mathlib.Core.Logic.{⊎_elim}
use Rattle.std.specs.List.{filter, flat_map, AllByRecursion}
use Rattle.std.proofs.lemmas.Bool.{cases_eq}
use Rattle.std.proofs.lemmas.List.Elements.{filter-append}
use Rattle.std.proofs.lemmas.Option.{none-some, same_Some, slice_get_within}
use Rattle.pd_canvas.specs.Views.{entry_of}
use Rattle.pd_grove.specs.declared.nodes.Node.{Node}
use Rattle.pd_grove.specs.declared.boards.Board.{Board}
use Rattle.pd_grove.specs.declared.spots.Spot.{Spot}
use Rattle.pd_grove.specs.Telling.{inner_in, keys_in}
use Rattle.pd_grove.specs.Owning.{board_in}
use Rattle.pd_grove.specs.Forest.{holder_in, IsForest, out_of}
use Rattle.pd_grove.specs.Grafts.{LiesInBox, TakesBox}
use Rattle.pd_grove.specs.TextOrder.{keys_inside, spot, box_spots, spots_among, is_sub}
use Rattle.pd_grove.proofs.SpotLemmas.{spots_none, spots_suc}
use Rattle.pd_grove.proofs.NestLemmas.{node_there, around_is, out_first as canvas_out_first}
use Rattle.pd_owning.specs.Order.{box_out}
use Rattle.pd_owning.specs.Bound.{is_among}
use Rattle.pd_owning.specs.Parts.{ArePart}
use Rattle.pd_owning.proofs.OutLemmas.{out_first, out_none}
use Rattle.pd_owning.proofs.OrderLemmas.{Within, box_turn, all_map}

-- the boxes that stay
abbrev pub stay : List ℕ → Spot → Bool
stay away p = not (is_among away p.node)

pub empty : (nodes : ℕ → Option Node) (boards : ℕ → Option Board) (n : ℕ) (top : Bool) → spots_among nodes boards n top [] ≡ []
empty nodes boards zero top = spots_none nodes boards top []
empty nodes boards (suc n) top = spots_suc nodes boards n top []

flat_append : (f : ℕ → List Spot) (xs ys : List ℕ) → flat_map f (xs ++ ys) ≡ flat_map f xs ++ flat_map f ys
flat_append f [] ys = refl
flat_append f (x ∷ xs) ys = ap (λ zs. f x ++ zs) (flat_append f xs ys) ∙ sym (append_assoc (f x) (flat_map f xs) (flat_map f ys))

none_stay : (test : Spot → Bool) (ps : List Spot) → AllByRecursion (λ p. test p ≡ false) ps → filter test ps ≡ []
none_stay test [] A = refl
none_stay test (p ∷ ps) A = ap (λ b. cond b (p ∷ filter test ps) (filter test ps)) A.0 ∙ none_stay test ps A.1

-- the boxes of a list, where those of each stay as they are told
flat_stay : (test : Spot → Bool) (f f' : ℕ → List Spot) (ks : List ℕ) → ((i k : ℕ) → slice_get ks i ≡ Some k → filter test (f k) ≡ f' k) → filter test (flat_map f ks) ≡ flat_map f' ks
flat_stay test f f' [] H = refl
flat_stay test f f' (k ∷ ks) H =
    filter-append test (f k) (flat_map f ks) ∙ ap (λ ps. ps ++ filter test (flat_map f ks)) (H zero k refl) ∙ ap (λ ps. f' k ++ ps) (flat_stay test f f' ks (λ i. H (suc i)))

at_left : (xs ys : List ℕ) (i x : ℕ) → slice_get xs i ≡ Some x → slice_get (xs ++ ys) i ≡ Some x
at_left [] ys i x at = absurd (none-some x at)
at_left (y ∷ xs) ys zero x at = at
at_left (y ∷ xs) ys (suc i) x at = at_left xs ys i x at

at_right : (xs ys : List ℕ) (i n x : ℕ) → n ≡ length xs + i → slice_get ys i ≡ Some x → slice_get (xs ++ ys) n ≡ Some x
at_right [] ys i n x e at = (let q : i ≡ n = omega (arith, e) in subst (λ m. slice_get ys m ≡ Some x) q at)
at_right (y ∷ xs) ys i zero x e at = absurd (omega (arith, e))
at_right (y ∷ xs) ys i (suc n) x e at = at_right xs ys i n x (omega (arith, e)) at

module _ (nodes : ℕ → Option Node) (boards : ℕ → Option Board) (root : ℕ) (F : IsForest nodes boards root) where
  -- a box that lies in k has its canvas in k
  canvas_lies : (m l x k : ℕ) → board_in (nodes l) ≡ Some x → box_out nodes boards (suc m) l ≡ Some k → LiesInBox nodes boards k x
  canvas_lies zero l x k lies out = by (holder_in (boards x)) refl
    where
      by : (o : Option ℕ) → holder_in (boards x) ≡ o → LiesInBox nodes boards k x
      by None e = absurd (none-some k (sym (out_none nodes boards zero l (ap (option_and_then (λ c. holder_in (boards c))) lies ∙ e)) ∙ out))
      by (Some h) e =
          let first = ap (option_and_then (λ c. holder_in (boards c))) lies ∙ e in
          let same : h ≡ k = same_Some h k (sym (out_first nodes boards zero l h first) ∙ out) in
          (x, F.held x k (e ∙ ap (λ y. Some y) same), (zero, refl))
  canvas_lies (suc m) l x k lies out = by (λ h y own further. canvas_lies m h y k own further) (holder_in (boards x)) refl
    where
      by : ((h y : ℕ) → board_in (nodes h) ≡ Some y → box_out nodes boards (suc m) h ≡ Some k → LiesInBox nodes boards k y) → (o : Option ℕ) → holder_in (boards x) ≡ o → LiesInBox nodes boards k x
      by P None e = absurd (none-some k (sym (out_none nodes boards (suc m) l (ap (option_and_then (λ c. holder_in (boards c))) lies ∙ e)) ∙ out))
      by P (Some h) e =
          let first = ap (option_and_then (λ c. holder_in (boards c))) lies ∙ e in
          let further : box_out nodes boards (suc m) h ≡ Some k = sym (out_first nodes boards (suc m) l h first) ∙ out in
          let holds = F.held x h e in
          let N = node_there (nodes h) x holds in
          let y = N.0.board in
          let own : board_in (nodes h) ≡ Some y = ap board_in N.1 in
          let L = P h y own further in
          (L.0, L.1, (suc L.2.0, canvas_out_first nodes boards L.2.0 x y (around_is nodes boards root F h y x own holds) ∙ L.2.1))

  -- what a box that doesn't lie in k holds doesn't lie in k
  inner_apart : (k l x j : ℕ) → board_in (nodes l) ≡ Some x → inner_in (nodes l) ≡ Some j → l ≢ k → (LiesInBox nodes boards k x → ⊥) → LiesInBox nodes boards k j → ⊥
  inner_apart k l x j lies holds d far L = by L.2.0 L.2.1
    where
      by : (m : ℕ) → out_of nodes boards m j ≡ Some L.0 → ⊥
      by zero e =
          let same : inner_in (nodes k) ≡ Some j = L.1 ∙ ap (λ y. Some y) (sym (same_Some j L.0 e)) in
          d (same_Some l k (sym (F.inside l j holds) ∙ F.inside k j same))
      by (suc m) e = far (L.0, L.1, (m, sym (canvas_out_first nodes boards m j x (around_is nodes boards root F l x j lies holds)) ∙ e))

  module _ (nodes' : ℕ → Option Node) (boards' : ℕ → Option Board) (c k : ℕ) (n : Node) (before behind : List ℕ) (T : TakesBox nodes nodes' boards boards' c k n before behind)
      (away : List ℕ) (A : ArePart nodes boards k away) where
    -- a box that doesn't lie in k stays
    out_stays : (l x : ℕ) (top : Bool) → board_in (nodes l) ≡ Some x → l ≢ k → (LiesInBox nodes boards k x → ⊥) → stay away (spot top l) ≡ true
    out_stays l x top lies d far = by (is_among away l) refl
      where
        not_within : (m : ℕ) → box_out nodes boards m l ≡ Some k → ⊥
        not_within zero e = d (same_Some l k e)
        not_within (suc m) e = far (canvas_lies m l x k lies e)

        by : (b : Bool) → is_among away l ≡ b → not b ≡ true
        by false e = refl
        by true e = (let w = (A l).0 e in absurd (not_within w.0 w.1))

    -- a box apart from k is told as before, where what it holds is
    box_stays : (m l x : ℕ) (top : Bool)
        → ((j : ℕ) (t : Bool) → (LiesInBox nodes boards k j → ⊥) → filter (stay away) (spots_among nodes boards m t (keys_in (boards j))) ≡ spots_among nodes' boards' m t (keys_in (boards' j)))
        → board_in (nodes l) ≡ Some x → l ≢ k → (LiesInBox nodes boards k x → ⊥) → (o : Option Node) → nodes l ≡ o
        → filter (stay away) (box_spots boards (spots_among nodes boards m) top l o) ≡ box_spots boards' (spots_among nodes' boards' m) top l o
    box_stays m l x top I lies d far None e = refl
    box_stays m l x top I lies d far (Some y) e =
        let t = top && is_sub (entry_of y.element).head.form in
        ap (λ b. cond b (spot top l ∷ filter (stay away) (spots_among nodes boards m t (keys_inside boards y.inner))) (filter (stay away) (spots_among nodes boards m t (keys_inside boards y.inner))))
        (out_stays l x top lies d far)
        ∙ ap (λ ps. spot top l ∷ ps) (by y.inner (ap inner_in e))
      where
        by : (i : Option ℕ) → inner_in (nodes l) ≡ i
            → filter (stay away) (spots_among nodes boards m (top && is_sub (entry_of y.element).head.form) (keys_inside boards i)) ≡ spots_among nodes' boards' m (top && is_sub (entry_of y.element).head.form) (keys_inside boards' i)
        by None h =
            ap (filter (stay away)) (empty nodes boards m (top && is_sub (entry_of y.element).head.form)) ∙ sym (empty nodes' boards' m (top && is_sub (entry_of y.element).head.form))
        by (Some j) h = I j (top && is_sub (entry_of y.element).head.form) (inner_apart k l x j lies h d far)

    -- where k is none of its boxes
    other_canvas : (x : ℕ) (f f' : ℕ → List Spot) → (LiesInBox nodes boards k x → ⊥) → x ≢ c
        → ((i l : ℕ) → slice_get (keys_in (boards x)) i ≡ Some l → l ≢ k → filter (stay away) (f l) ≡ f' l) → filter (stay away) (flat_map f (keys_in (boards x))) ≡ flat_map f' (keys_in (boards' x))
    other_canvas x f f' far d one =
        let k_lies : board_in (nodes k) ≡ Some c = ap board_in T.was ∙ ap (λ y. Some y) T.lay in
        flat_stay (stay away) f f' (keys_in (boards x)) (λ i l at. one i l at (λ e. d (same_Some x c (sym (F.own.home x i l at) ∙ ap (λ y. board_in (nodes y)) e ∙ k_lies))))
        ∙ ap (λ o. flat_map f' (keys_in o)) (sym (T.boards_stay x d far))

    -- where k is one of its boxes
    own_canvas : (x : ℕ) (f f' : ℕ → List Spot) → AllByRecursion (λ p. Within nodes boards k p.node) (f k) → x ≡ c
        → ((i l : ℕ) → slice_get (keys_in (boards x)) i ≡ Some l → l ≢ k → filter (stay away) (f l) ≡ f' l) → filter (stay away) (flat_map f (keys_in (boards x))) ≡ flat_map f' (keys_in (boards' x))
    own_canvas x f f' part e one =
        let keys : keys_in (boards x) ≡ before ++ k ∷ behind = ap (λ y. keys_in (boards y)) e ∙ ap keys_in T.board ∙ T.had in
        let keys' : keys_in (boards' x) ≡ before ++ behind = ap (λ y. keys_in (boards' y)) e ∙ ap keys_in T.without ∙ T.has in
        let back : (i l : ℕ) → slice_get (before ++ k ∷ behind) i ≡ Some l → slice_get (keys_in (boards x)) i ≡ Some l = (λ i l at. ap (λ ks. slice_get ks i) keys ∙ at) in
        let own : slice_get (before ++ k ∷ behind) (length before) ≡ Some k = at_right before (k ∷ behind) 0 (length before) k (omega arith) refl in
        let first : filter (stay away) (flat_map f before) ≡ flat_map f' before =
        flat_stay (stay away) f f' before (λ i l at. let there = back i l (at_left before (k ∷ behind) i l at) in
        one i l there (λ q. let same : i ≡ length before = F.own.once x i (length before) k (there ∙ ap (λ y. Some y) q) (back (length before) k own) in
        let less = slice_get_within before i l at in absurd (omega (arith, same, less)))) in
        let last : filter (stay away) (flat_map f behind) ≡ flat_map f' behind =
        flat_stay (stay away) f f' behind (λ i l at. let there = back (length before + suc i) l (at_right before (k ∷ behind) (suc i) (length before + suc i) l refl at) in
        one (length before + suc i) l there (λ q. let same : length before + suc i ≡ length before = F.own.once x (length before + suc i) (length before) k (there ∙ ap (λ y. Some y) q) (back (length before) k own) in
        absurd (omega (arith, same)))) in
        let goes : filter (stay away) (f k) ≡ [] =
        none_stay (stay away) (f k) (all_map (λ p. Within nodes boards k p.node) (λ p. stay away p ≡ false) (f k) (λ p w. ap not ((A p.node).1 (w.boxes, w.out))) part) in
        ap (λ ks. filter (stay away) (flat_map f ks)) keys
        ∙ ap (filter (stay away)) (flat_append f before (k ∷ behind))
        ∙ filter-append (stay away) (flat_map f before) (f k ++ flat_map f behind)
        ∙ ap (λ ps. filter (stay away) (flat_map f before) ++ ps) (filter-append (stay away) (f k) (flat_map f behind))
        ∙ ap (λ ps. ps ++ (filter (stay away) (f k) ++ filter (stay away) (flat_map f behind))) first
        ∙ ap (λ ps. flat_map f' before ++ (ps ++ filter (stay away) (flat_map f behind))) goes
        ∙ ap (λ ps. flat_map f' before ++ ps) last
        ∙ sym (flat_append f' before behind)
        ∙ ap (flat_map f') (sym keys')

    -- the boxes of a canvas that doesn't lie in k
    pub canvas_stays : (m x : ℕ) (top : Bool) → (LiesInBox nodes boards k x → ⊥)
        → filter (stay away) (spots_among nodes boards m top (keys_in (boards x))) ≡ spots_among nodes' boards' m top (keys_in (boards' x))
    canvas_stays zero x top far = ap (filter (stay away)) (spots_none nodes boards top (keys_in (boards x))) ∙ sym (spots_none nodes' boards' top (keys_in (boards' x)))
    canvas_stays (suc m) x top far =
        let f : ℕ → List Spot = λ l. box_spots boards (spots_among nodes boards m) top l (nodes l) in
        let f' : ℕ → List Spot = λ l. box_spots boards' (spots_among nodes' boards' m) top l (nodes' l) in
        let one : (i l : ℕ) → slice_get (keys_in (boards x)) i ≡ Some l → l ≢ k → filter (stay away) (f l) ≡ f' l =
        (λ i l at d. let lies = F.own.home x i l at in
        box_stays m l x top (λ j t far'. canvas_stays m j t far') lies d far (nodes l) refl ∙ ap (box_spots boards' (spots_among nodes' boards' m) top l) (sym (T.nodes_stay l x d lies far))) in
        ap (filter (stay away)) (spots_suc nodes boards m top (keys_in (boards x)))
        ∙ ⊎_elim (λ (e : x ≡ c). own_canvas x f f' (box_turn nodes boards root F m top k).within e one) (λ (d : x ≢ c). other_canvas x f f' far d one) (cases_eq x c)
        ∙ sym (spots_suc nodes' boards' m top (keys_in (boards' x)))
