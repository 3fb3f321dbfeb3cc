-- A box with all that lies in it, and the tree without them.
use Rattle.std.proofs.Common.{◌≡◌, ◌≢◌, ℕ, zero, suc, false, List, ◌∷◌, ◌++◌, Option, Some, None, IsSome, IsTrue, refl, sym, ap, ◌∙◌, subst, arith}
use Rattle.std.specs.Prelude.{slice_get, option_and_then}
use mathlib.Core.Logic.{⊎_elim}
use Rattle.std.proofs.lemmas.Bool.{both_ways, cases_eq}
use Rattle.std.proofs.lemmas.Option.{none-some, same_Some}
use Rattle.pd_grove.specs.declared.nodes.Node.{Node}
use Rattle.pd_grove.specs.declared.boards.Board.{Board}
use Rattle.pd_grove.specs.Telling.{inner_in, keys_in}
use Rattle.pd_grove.specs.Owning.{board_in}
use Rattle.pd_grove.specs.Forest.{holder_in, IsForest, around, out_of}
use Rattle.pd_grove.specs.Grafts.{LiesInBox, TakesBox}
use Rattle.pd_grove.proofs.GraftLemmas.{where_is, IsHere, IsThere as IsElsewhere}
use Rattle.pd_grove.proofs.NestLemmas.{around_is, box_deep, node_there, out_first as canvas_out_first}
use Rattle.pd_grove.proofs.PruneLemmas.{below_box}
use Rattle.pd_grove.proofs.UseLemmas.{none_or_some, not_both}
use Rattle.pd_owning.specs.Order.{holder_of, box_out}
use Rattle.pd_owning.specs.Bound.{is_among}
use Rattle.pd_owning.specs.Parts.{ArePart, LiesWithin}
use Rattle.pd_owning.proofs.OutLemmas.{out_first, out_none}
use Rattle.pd_owning.proofs.StandLemmas.{live_there}
use Rattle.pd_patch.specs.Listing.{IsThere}
use Rattle.pd_order.proofs.Basics.{by_test}

-- one of these holds the canvas
pub record Holds (nodes : ℕ → Option Node) (part : List ℕ) (d : ℕ) : Type 0 where
  pub box : ℕ
  pub among : IsTrue (is_among part box)
  pub holds : inner_in (nodes box) ≡ Some d

module _ (nodes : ℕ → Option Node) (boards : ℕ → Option Board) (root : ℕ) (F : IsForest nodes boards root) where
  no_way : (m x : ℕ) → around nodes boards x ≡ None → out_of nodes boards (suc m) x ≡ None
  no_way zero x e = e
  no_way (suc m) x e = ap (option_and_then (around nodes boards)) (no_way m x e)

  held_by : (l x h : ℕ) → board_in (nodes l) ≡ Some x → holder_in (boards x) ≡ Some h → holder_of nodes boards l ≡ Some h
  held_by l x h lies e = ap (option_and_then (λ c. holder_in (boards c))) lies ∙ e

  held_by_none : (l x : ℕ) → board_in (nodes l) ≡ Some x → holder_in (boards x) ≡ None → holder_of nodes boards l ≡ None
  held_by_none l x lies e = ap (option_and_then (λ c. holder_in (boards c))) lies ∙ e

  -- a box that lies in another has its canvas in that
  canvas_lies : (m l x k : ℕ) → board_in (nodes l) ≡ Some x → box_out nodes boards (suc m) l ≡ Some k → LiesInBox nodes boards k x
  canvas_lies zero l x k lies out = by (holder_in (boards x)) refl
    where
      by : (o : Option ℕ) → holder_in (boards x) ≡ o → LiesInBox nodes boards k x
      by None e = absurd (none-some k (sym (out_none nodes boards zero l (held_by_none l x lies e)) ∙ out))
      by (Some h) e =
          let same : h ≡ k = same_Some h k (sym (out_first nodes boards zero l h (held_by l x h lies e)) ∙ out) in
          (x, F.held x k (e ∙ ap (λ y. Some y) same), (zero, refl))
  canvas_lies (suc m) l x k lies out = by (λ h y own further. canvas_lies m h y k own further) (holder_in (boards x)) refl
    where
      by : ((h y : ℕ) → board_in (nodes h) ≡ Some y → box_out nodes boards (suc m) h ≡ Some k → LiesInBox nodes boards k y) → (o : Option ℕ) → holder_in (boards x) ≡ o → LiesInBox nodes boards k x
      by P None e = absurd (none-some k (sym (out_none nodes boards (suc m) l (held_by_none l x lies e)) ∙ out))
      by P (Some h) e =
          let further : box_out nodes boards (suc m) h ≡ Some k = sym (out_first nodes boards (suc m) l h (held_by l x h lies e)) ∙ out in
          let holds = F.held x h e in
          let N = node_there (nodes h) x holds in
          let own : board_in (nodes h) ≡ Some N.0.board = ap board_in N.1 in
          below_box nodes boards root k N.0.board x F (around_is nodes boards root F h N.0.board x own holds) (P h N.0.board own further)

  -- a box whose canvas lies in another lies in that
  box_lies : (m l x k j : ℕ) → board_in (nodes l) ≡ Some x → inner_in (nodes k) ≡ Some j → out_of nodes boards m x ≡ Some j → LiesWithin nodes boards k l
  box_lies zero l x k j lies holds e = (suc zero, held_by l x k lies (ap (λ y. holder_in (boards y)) (same_Some x j e) ∙ F.inside k j holds))
  box_lies (suc m) l x k j lies holds e = by (λ h y own further. box_lies m h y k j own holds further) (holder_in (boards x)) refl
    where
      by : ((h y : ℕ) → board_in (nodes h) ≡ Some y → out_of nodes boards m y ≡ Some j → LiesWithin nodes boards k h) → (o : Option ℕ) → holder_in (boards x) ≡ o → LiesWithin nodes boards k l
      by P None f = absurd (none-some j (sym (no_way m x (ap (option_and_then (λ y. board_in (nodes y))) f)) ∙ e))
      by P (Some h) f =
          let held = F.held x h f in
          let N = node_there (nodes h) x held in
          let own : board_in (nodes h) ≡ Some N.0.board = ap board_in N.1 in
          let W = P h N.0.board own (sym (canvas_out_first nodes boards m x N.0.board (around_is nodes boards root F h N.0.board x own held)) ∙ e) in
          (suc W.0, out_first nodes boards W.0 l h (held_by l x h lies f) ∙ W.1)

  module _ (key : ℕ) (part : List ℕ) (A : ArePart nodes boards key part) where
    pub key_among : IsTrue (is_among part key)
    key_among = (A key).1 (zero, refl)

    pub not_key : (l : ℕ) → is_among part l ≡ false → l ≢ key
    not_key l out e = both_ways (is_among part l) out (ap (is_among part) e ∙ key_among)

    -- a box whose canvas lies in the box of the key is one of these
    pub inside : (l x : ℕ) → board_in (nodes l) ≡ Some x → LiesInBox nodes boards key x → IsTrue (is_among part l)
    inside l x lies L = (A l).1 (box_lies L.2.0 l x key L.0 lies L.1 L.2.1)

    pub outside : (l x : ℕ) → is_among part l ≡ false → board_in (nodes l) ≡ Some x → LiesInBox nodes boards key x → ⊥
    outside l x out lies L = both_ways (is_among part l) out (inside l x lies L)

    -- the canvas of each of these but the box of the key lies in that
    pub in_box : (l x : ℕ) → IsTrue (is_among part l) → l ≢ key → board_in (nodes l) ≡ Some x → LiesInBox nodes boards key x
    in_box l x at d lies = by ((A l).0 at)
      where
        by : LiesWithin nodes boards key l → LiesInBox nodes boards key x
        by (zero, e) = absurd (d (same_Some l key e))
        by (suc m, e) = canvas_lies m l x key lies e

    -- each of these lives
    pub part_live : IsSome (nodes key) → (l : ℕ) → IsTrue (is_among part l) → IsSome (nodes l)
    part_live live l at = by ((A l).0 at)
      where
        none_holds : nodes l ≡ None → holder_of nodes boards l ≡ None
        none_holds e = ap (λ o. option_and_then (λ c. holder_in (boards c)) (board_in o)) e

        by : LiesWithin nodes boards key l → IsSome (nodes l)
        by (zero, e) = subst (λ y. IsSome (nodes y)) (sym (same_Some l key e)) live
        by (suc m, e) = ⊎_elim
            (λ (none : nodes l ≡ None). absurd (none-some key (sym (out_none nodes boards m l (none_holds none)) ∙ e)))
            (λ (some : IsSome (nodes l)). some) (none_or_some (nodes l))

    -- what one of these holds lies in the box of the key
    pub held_inside : (l d : ℕ) → IsTrue (is_among part l) → inner_in (nodes l) ≡ Some d → LiesInBox nodes boards key d
    held_inside l d at holds = ⊎_elim
        (λ (e : l ≡ key). (d, ap (λ y. inner_in (nodes y)) (sym e) ∙ holds, (zero, refl)))
        (λ (f : l ≢ key).
        let N = node_there (nodes l) d holds in
        let own : board_in (nodes l) ≡ Some N.0.board = ap board_in N.1 in
        below_box nodes boards root key N.0.board d F (around_is nodes boards root F l N.0.board d own holds) (in_box l N.0.board at f own))
        (cases_eq l key)

    -- and one of these holds what lies in it
    pub held_by_one : (d : ℕ) → LiesInBox nodes boards key d → Holds nodes part d
    held_by_one d L = by L.2.0 L.2.1
      where
        by : (m : ℕ) → out_of nodes boards m d ≡ Some L.0 → Holds nodes part d
        by zero e = record { box = key; among = key_among; holds = L.1 ∙ ap (λ y. Some y) (sym (same_Some d L.0 e)) }
        by (suc m) e = step (holder_in (boards d)) refl
          where
            step : (o : Option ℕ) → holder_in (boards d) ≡ o → Holds nodes part d
            step None f = absurd (none-some L.0 (sym (no_way m d (ap (option_and_then (λ y. board_in (nodes y))) f)) ∙ e))
            step (Some h) f =
                let held = F.held d h f in
                let N = node_there (nodes h) d held in
                let own : board_in (nodes h) ≡ Some N.0.board = ap board_in N.1 in
                let further = sym (canvas_out_first nodes boards m d N.0.board (around_is nodes boards root F h N.0.board d own held)) ∙ e in
                record { box = h; among = inside h N.0.board own (L.0, L.1, (m, further)); holds = held }

    -- of two boxes of one canvas of which one stays the other one is the box of the key or stays
    pub beside : (k l x : ℕ) → is_among part k ≡ false → board_in (nodes k) ≡ Some x → board_in (nodes l) ≡ Some x → l ≢ key → is_among part l ≡ false
    beside k l x out lies also d = by_test (is_among part l)
        (λ at. absurd (outside k x out lies (in_box l x at d also)))
        (λ f. f)

    -- The tree without them.

    module _ (nodes' : ℕ → Option Node) (boards' : ℕ → Option Board) (c : ℕ) (n : Node) (before behind : List ℕ) (T : TakesBox nodes nodes' boards boards' c key n before behind) where
      key_lies : board_in (nodes key) ≡ Some c
      key_lies = ap board_in T.was ∙ ap (λ y. Some y) T.lay

      key_live : IsSome (nodes key)
      key_live = subst (λ o. IsSome o) (sym T.was) refl

      pub canvas_outside : LiesInBox nodes boards key c → ⊥
      canvas_outside L = let q = box_deep nodes boards root key c c F key_lies L in absurd (omega (arith, q))

      pub box_gone : (l : ℕ) → IsTrue (is_among part l) → nodes' l ≡ None
      box_gone l at = ⊎_elim
          (λ (e : l ≡ key). ap nodes' e ∙ T.gone)
          (λ (d : l ≢ key).
          let N = live_there (nodes l) (part_live key_live l at) in
          let own : board_in (nodes l) ≡ Some N.0.board = ap board_in N.1 in
          T.nodes_go l N.0.board own (in_box l N.0.board at d own))
          (cases_eq l key)

      pub box_stays : (l : ℕ) → is_among part l ≡ false → nodes' l ≡ nodes l
      box_stays l out = by (nodes l) refl
        where
          by : (o : Option Node) → nodes l ≡ o → nodes' l ≡ nodes l
          by None e = ⊎_elim (λ (none : nodes' l ≡ None). none ∙ sym e) (λ (some : IsSome (nodes' l)). T.none_comes l some) (none_or_some (nodes' l))
          by (Some m) e = T.nodes_stay l m.board (not_key l out) (ap board_in e) (outside l m.board out (ap board_in e))

      pub not_among : (l : ℕ) → IsSome (nodes' l) → is_among part l ≡ false
      not_among l live = by_test (is_among part l)
          (λ at. absurd (not_both (nodes' l) (box_gone l at) live))
          (λ f. f)

      canvas_same : (d x : ℕ) → d ≢ c → is_among part x ≡ false → board_in (nodes x) ≡ Some d → boards' d ≡ boards d
      canvas_same d x f out lies = T.boards_stay d f (outside x d out lies)

      -- the boxes that stay stand in their canvases
      pub there_left : (d x : ℕ) → is_among part x ≡ false → IsThere (keys_in (boards d)) x → IsThere (keys_in (boards' d)) x
      there_left d x out t = ⊎_elim
          (λ (e : d ≡ c). subst (λ y. IsThere (keys_in (boards' y)) x) (sym e) (here (ap (λ ks. slice_get ks t.0) (sym (ap (λ y. keys_in (boards y)) e ∙ ap keys_in T.board ∙ T.had)) ∙ t.1)))
          (λ (f : d ≢ c). (t.0, ap (λ o. slice_get (keys_in o) t.0) (canvas_same d x f out (F.own.home d t.0 x t.1)) ∙ t.1))
          (cases_eq d c)
        where
          here : slice_get (before ++ key ∷ behind) t.0 ≡ Some x → IsThere (keys_in (boards' c)) x
          here at = ⊎_elim
              (λ (y : IsHere before key t.0 x). absurd (not_key x out y.key))
              (λ (y : IsElsewhere before behind t.0 x). (y.spot, ap (λ ks. slice_get ks y.spot) (ap keys_in T.without ∙ T.has) ∙ y.at))
              (where_is before behind key t.0 x at)
