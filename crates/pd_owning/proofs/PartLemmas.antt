-- A box with all that lies in it, in text order.
use Rattle.std.proofs.Common.{◌≡◌, ℕ, zero, suc, ◌+◌, ◌-◌, ◌<◌, Bool, true, false, ◌&&◌, ◌||◌, List, [], ◌∷◌, Option, Some, None, IsSome, nat_eq, inl, inr, refl, sym, ap, ◌∙◌, subst, arith}
use mathlib.Core.Logic.{⊎_elim}
use Rattle.std.specs.Prelude.{slice_get, option_and_then, ◌⊎◌}
use Rattle.std.specs.List.{AllByRecursion}
use Rattle.std.proofs.lemmas.Bool.{or_cases, false≢true, eqb-true, eq-eqb, cases_order}
use Rattle.std.proofs.lemmas.Option.{none-some, same_Some}
use Rattle.slab.specs.Slab.{get}
use Rattle.pd_canvas.specs.Views.{entry_of}
use Rattle.pd_grove.specs.declared.nodes.Node.{Node}
use Rattle.pd_grove.specs.declared.boards.Board.{Board}
use Rattle.pd_grove.specs.declared.grove.Grove.{Grove}
use Rattle.pd_grove.specs.declared.spots.Spot.{Spot}
use Rattle.pd_grove.specs.Telling.{inner_in, keys_in}
use Rattle.pd_grove.specs.Owning.{board_in}
use Rattle.pd_grove.specs.Forest.{holder_in, IsForest}
use Rattle.pd_grove.specs.TextOrder.{keys_inside, spot, box_spots, spots_among, spots_in_order, keys_of_spots, is_sub}
use Rattle.pd_grove.proofs.SpotLemmas.{spots_suc, spots_live}
use Rattle.pd_grove.proofs.ForestLemmas.{box_there, held_there}
use Rattle.pd_grove.proofs.NestLemmas.{node_there}
use Rattle.pd_owning.specs.Order.{holder_of, box_out, level, is_sub_box, own_in, is_own}
use Rattle.pd_owning.specs.Bound.{is_among}
use Rattle.pd_owning.specs.Parts.{ArePart, part_spots}
use Rattle.pd_owning.proofs.OutLemmas.{out_first, out_none, out_deep, level_is}
use Rattle.pd_owning.proofs.OrderLemmas.{Within, Comes, turn_at, box_turn, forest_turn, never_itself}
use Rattle.pd_owning.proofs.StandLemmas.{Has, has_flat, live_there, own_canvas, in_order, stands}
use Rattle.pd_owning.proofs.LessLemmas.{empty}

among_all : (P : ℕ → Type 0) (ps : List Spot) (x : ℕ) → AllByRecursion (λ q. P q.node) ps → is_among (keys_of_spots ps) x ≡ true → P x
among_all P [] x A t = absurd (false≢true t)
among_all P (q ∷ qs) x A t = by (or_cases (nat_eq x q.node) (is_among (keys_of_spots qs) x) t) (λ r. among_all P qs x A.1 r)
  where
    by : (nat_eq x q.node ≡ true) ⊎ (is_among (keys_of_spots qs) x ≡ true) → (is_among (keys_of_spots qs) x ≡ true → P x) → P x
    by (inl e) f = subst P (sym (eqb-true x q.node e)) A.0
    by (inr r) f = f r

or_true : (b : Bool) → (b || true) ≡ true
or_true true = refl
or_true false = refl

-- a box with this key stands in the list
abbrev HasKey : List Spot → ℕ → Type 0
HasKey ps x = (q : Spot) × Has ps q × (q.node ≡ x)

among_at : (ps : List Spot) (i : ℕ) (q : Spot) → slice_get ps i ≡ Some q → is_among (keys_of_spots ps) q.node ≡ true
among_at [] i q at = absurd (none-some q at)
among_at (p ∷ ps) zero q at = ap (λ b. b || is_among (keys_of_spots ps) q.node) (eq-eqb q.node p.node (ap (λ (y : Spot). y.node) (sym (same_Some p q at))))
among_at (p ∷ ps) (suc i) q at = ap (λ b. nat_eq q.node p.node || b) (among_at ps i q at) ∙ or_true (nat_eq q.node p.node)

key_among : (ps : List Spot) (x : ℕ) → HasKey ps x → is_among (keys_of_spots ps) x ≡ true
key_among ps x h = subst (λ y. is_among (keys_of_spots ps) y ≡ true) h.2 (among_at ps h.1.0 h.0 h.1.1)

module _ (nodes : ℕ → Option Node) (boards : ℕ → Option Board) (root : ℕ) (F : IsForest nodes boards root) where
  -- what stands in the canvas of a box stands in the box
  held_key : (m : ℕ) (top : Bool) (h c : ℕ) (x : ℕ) → inner_in (nodes h) ≡ Some c → ((t : Bool) → HasKey (spots_among nodes boards m t (keys_in (boards c))) x)
      → HasKey (box_spots boards (spots_among nodes boards m) top h (nodes h)) x
  held_key m top h c x holds H =
      let N = node_there (nodes h) c holds in
      let inner : N.0.inner ≡ Some c = sym (ap inner_in N.1) ∙ holds in
      subst (λ o. HasKey (box_spots boards (spots_among nodes boards m) top h o) x) (sym N.1) (by N.0 inner)
    where
      by : (n : Node) → n.inner ≡ Some c → HasKey (box_spots boards (spots_among nodes boards m) top h (Some n)) x
      by n e =
          let t = top && is_sub (entry_of n.element).head.form in
          let K : HasKey (spots_among nodes boards m t (keys_inside boards n.inner)) x = subst (λ i. HasKey (spots_among nodes boards m t (keys_inside boards i)) x) (sym e) (H t) in
          (K.0, (suc K.1.0, K.1.1), K.2)

  -- what stands in a box stands in its canvas
  canvas_key : (m : ℕ) (t : Bool) (c i h x : ℕ) → slice_get (keys_in (boards c)) i ≡ Some h → HasKey (box_spots boards (spots_among nodes boards m) t h (nodes h)) x
      → HasKey (spots_among nodes boards (suc m) t (keys_in (boards c))) x
  canvas_key m t c i h x at K =
      let f : ℕ → List Spot = λ k. box_spots boards (spots_among nodes boards m) t k (nodes k) in
      subst (λ ps. HasKey ps x) (sym (spots_suc nodes boards m t (keys_in (boards c)))) (K.0, has_flat f (keys_in (boards c)) i h at K.0 K.1, K.2)

  -- what stands in a canvas within a box stands in the box
  within_key : (d h c f all k x : ℕ) (top : Bool) → inner_in (nodes h) ≡ Some c → box_out nodes boards d h ≡ Some k → f + d ≡ all
      → ((t : Bool) → HasKey (spots_among nodes boards f t (keys_in (boards c))) x) → HasKey (box_spots boards (spots_among nodes boards all) top k (nodes k)) x
  within_key zero h c f all k x top holds out l H =
      let same : f ≡ all = omega (arith, l) in
      subst (λ y. HasKey (box_spots boards (spots_among nodes boards all) top y (nodes y)) x) (same_Some h k out)
      (subst (λ m. HasKey (box_spots boards (spots_among nodes boards m) top h (nodes h)) x) same (held_key f top h c x holds H))
  within_key (suc d) h c f all k x top holds out l H =
      by (λ y j own out' K. within_key d y j (suc f) all k x top own out' (omega (arith, l)) K) (holder_of nodes boards h) refl
    where
      by : ((y j : ℕ) → inner_in (nodes y) ≡ Some j → box_out nodes boards d y ≡ Some k → ((t : Bool) → HasKey (spots_among nodes boards (suc f) t (keys_in (boards j))) x)
          → HasKey (box_spots boards (spots_among nodes boards all) top k (nodes k)) x) → (o : Option ℕ) → holder_of nodes boards h ≡ o
          → HasKey (box_spots boards (spots_among nodes boards all) top k (nodes k)) x
      by P None e = absurd (none-some k (sym (out_none nodes boards d h e) ∙ out))
      by P (Some y) e =
          let N = node_there (nodes h) c holds in
          let j = N.0.board in
          let lies : board_in (nodes h) ≡ Some j = ap board_in N.1 in
          let place = F.placed h j lies in
          let own : inner_in (nodes y) ≡ Some j = F.held j y (sym (ap (option_and_then (λ z. holder_in (boards z))) lies) ∙ e) in
          P y j own (sym (out_first nodes boards d h y e) ∙ out) (λ t. canvas_key f t j place.0 h x place.1 (held_key f t h c x holds H))

  -- a box that lies in another stands in it
  part_key : (m x k all : ℕ) (top : Bool) → IsSome (nodes k) → box_out nodes boards m x ≡ Some k → all + level nodes boards k ≡ 256
      → HasKey (box_spots boards (spots_among nodes boards all) top k (nodes k)) x
  part_key zero x k all top live out l =
      let N = live_there (nodes k) live in
      subst (λ o. HasKey (box_spots boards (spots_among nodes boards all) top k o) x) (sym N.1) (spot top k, (zero, refl), sym (same_Some x k out))
  part_key (suc m) x k all top live out l = by (holder_of nodes boards x) refl (board_in (nodes x)) refl
    where
      by : (o : Option ℕ) → holder_of nodes boards x ≡ o → (p : Option ℕ) → board_in (nodes x) ≡ p → HasKey (box_spots boards (spots_among nodes boards all) top k (nodes k)) x
      by None e p g = absurd (none-some k (sym (out_none nodes boards m x e) ∙ out))
      by (Some h) e None g = absurd (none-some h (sym (ap (option_and_then (λ z. holder_in (boards z))) g) ∙ e))
      by (Some h) e (Some c) g =
          let deep = out_deep nodes boards root F (suc m) x k out in
          let here = level_is nodes boards x c g in
          let low = F.shallow c in
          let f : ℕ = all - suc m in
          let place = F.placed x c g in
          let own : inner_in (nodes h) ≡ Some c = F.held c h (sym (ap (option_and_then (λ z. holder_in (boards z))) g) ∙ e) in
          let there = box_there (nodes x) c g in
          within_key m h c (suc f) all k x top own (sym (out_first nodes boards m x h e) ∙ out) (omega (arith, deep, here, low, l))
          (λ t. canvas_key f t c place.0 x x place.1 (subst (λ o. HasKey (box_spots boards (spots_among nodes boards f) t x o) x) (sym there.is) (spot t x, (zero, refl), refl)))

  pub are_part : (k : ℕ) (top : Bool) → IsSome (nodes k) → ArePart nodes boards k (keys_of_spots (box_spots boards (spots_among nodes boards (256 - level nodes boards k)) top k (nodes k)))
  are_part k top live x =
      let all : ℕ = 256 - level nodes boards k in
      let N = live_there (nodes k) live in
      let low = F.shallow N.0.board in
      let here = level_is nodes boards k N.0.board (ap board_in N.1) in
      let ps = box_spots boards (spots_among nodes boards all) top k (nodes k) in (
        λ t. let w = among_all (Within nodes boards k) ps x (box_turn nodes boards root F all top k).within t in (w.boxes, w.out),
        λ w. key_among ps x (part_key w.0 x k all top live w.1 (omega (arith, low, here))),
      )

spot_all : (P : ℕ → Type 0) (ps : List Spot) (i : ℕ) (p : Spot) → AllByRecursion P (keys_of_spots ps) → slice_get ps i ≡ Some p → P p.node
spot_all P [] i p A at = absurd (none-some p at)
spot_all P (q ∷ qs) zero p A at = subst (λ (y : Spot). P y.node) (same_Some q p at) A.0
spot_all P (q ∷ qs) (suc i) p A at = spot_all P qs i p A.1 at

module _ (g : Grove) (F : IsForest (get g.nodes) (get g.boards) g.root) (p : Spot) (i : ℕ) (at : slice_get (spots_in_order g) i ≡ Some p) where
  pub spot_live : IsSome (get g.nodes p.node)
  spot_live = spot_all (λ k. IsSome (get g.nodes k)) (spots_in_order g) i p (spots_live (get g.nodes) (get g.boards) 257 true (keys_in (get g.boards g.root))) at

  -- a box stands in the patch's own document where the boxes around it are subpatches
  own_spot : p ≡ spot (is_own (get g.nodes) (get g.boards) (level (get g.nodes) (get g.boards) p.node) p.node) p.node
  own_spot = by (stands (get g.nodes) (get g.boards) g.root F p.node spot_live)
    where
      by : (h : Has (spots_in_order g) (spot (is_own (get g.nodes) (get g.boards) (level (get g.nodes) (get g.boards) p.node) p.node) p.node))
          → p ≡ spot (is_own (get g.nodes) (get g.boards) (level (get g.nodes) (get g.boards) p.node) p.node) p.node
      by h =
          let s = spot (is_own (get g.nodes) (get g.boards) (level (get g.nodes) (get g.boards) p.node) p.node) p.node in
          let R = Comes (get g.nodes) (get g.boards) in
          let turn = forest_turn (get g.nodes) (get g.boards) g.root F in
          let never = never_itself (get g.nodes) (get g.boards) g.root F p.node in
          ⊎_elim
          (λ (e : i ≡ h.0). same_Some p s (sym at ∙ ap (slice_get (spots_in_order g)) e ∙ h.1))
          (λ (o : (i < h.0) ⊎ (h.0 < i)). ⊎_elim
          (λ (l : i < h.0). absurd (never (turn_at R (spots_in_order g) i h.0 p s l at h.1 turn)))
          (λ (l : h.0 < i). absurd (never (turn_at R (spots_in_order g) h.0 i s p l h.1 at turn))) o)
          (cases_order i h.0)

  -- each box of a part stands in text order
  pub part_stands : (j : ℕ) (q : Spot) → slice_get (part_spots (get g.nodes) (get g.boards) p) j ≡ Some q → Has (spots_in_order g) q
  part_stands j q h = by (get g.nodes p.node) refl j h
    where
      inside : (n : Node) → get g.nodes p.node ≡ Some n → (o : Option ℕ) → n.inner ≡ o → (j : ℕ)
          → slice_get (spots_among (get g.nodes) (get g.boards) (256 - level (get g.nodes) (get g.boards) p.node) (p.is_top && is_sub (entry_of n.element).head.form) (keys_inside (get g.boards) o)) j ≡ Some q
          → Has (spots_in_order g) q
      inside n e None f j h = absurd (none-some q (ap (λ ps. slice_get ps j) (sym (empty (get g.nodes) (get g.boards) (256 - level (get g.nodes) (get g.boards) p.node) (p.is_top && is_sub (entry_of n.element).head.form))) ∙ h))
      inside n e (Some c) f j h =
          let nodes = get g.nodes in
          let boards = get g.boards in
          let k = p.node in
          let holds : inner_in (nodes k) ≡ Some c = ap inner_in e ∙ f in
          let lies : board_in (nodes k) ≡ Some n.board = ap board_in e in
          let held = F.inside k c holds in
          let B = held_there (boards c) k held in
          let deeper = F.deeper k n.board c lies holds in
          let here = level_is nodes boards k n.board lies in
          let low = F.shallow c in
          let top : p.is_top ≡ is_own nodes boards (level nodes boards k) k = ap (λ (s : Spot). s.is_top) own_spot in
          let flag : p.is_top && is_sub (entry_of n.element).head.form ≡ own_canvas nodes boards (suc (level nodes boards k)) c =
          ap (λ b. b && is_sub (entry_of n.element).head.form) top ∙ ap (λ o. is_own nodes boards (level nodes boards k) k && is_sub_box o) (sym e) ∙ ap (own_in nodes (is_own nodes boards (level nodes boards k))) (sym held) in
          in_order nodes boards g.root F (suc (level nodes boards k)) c (256 - level nodes boards k) q (omega (arith, deeper, here)) (subst (λ o. IsSome o) (sym B.is) refl) (omega (arith, deeper, here, low))
          (j, ap (λ b. slice_get (spots_among nodes boards (256 - level nodes boards k) b (keys_in (boards c))) j) (sym flag) ∙ h)

      by : (o : Option Node) → get g.nodes p.node ≡ o → (j : ℕ) → slice_get (box_spots (get g.boards) (spots_among (get g.nodes) (get g.boards) (256 - level (get g.nodes) (get g.boards) p.node)) p.is_top p.node o) j ≡ Some q
          → Has (spots_in_order g) q
      by None e j h = absurd (none-some q h)
      by (Some n) e zero h = (i, at ∙ h)
      by (Some n) e (suc j) h = inside n e n.inner refl j h

  -- and stands once
  pub part_once : (j m : ℕ) (x y : Spot) → slice_get (part_spots (get g.nodes) (get g.boards) p) j ≡ Some x → slice_get (part_spots (get g.nodes) (get g.boards) p) m ≡ Some y → x.node ≡ y.node → j ≡ m
  part_once j m x y h f e =
      let R = Comes (get g.nodes) (get g.boards) in
      let ps = part_spots (get g.nodes) (get g.boards) p in
      let turn = (box_turn (get g.nodes) (get g.boards) g.root F (256 - level (get g.nodes) (get g.boards) p.node) p.is_top p.node).turn in
      let never = never_itself (get g.nodes) (get g.boards) g.root F in
      ⊎_elim
      (λ (q : j ≡ m). q)
      (λ (o : (j < m) ⊎ (m < j)). ⊎_elim
      (λ (l : j < m). absurd (never y.node (subst (λ k. R k y.node) e (turn_at R ps j m x y l h f turn))))
      (λ (l : m < j). absurd (never y.node (subst (λ k. R y.node k) e (turn_at R ps m j y x l f h turn)))) o)
      (cases_order j m)
