-- The tree with a box that came with all that lies in it: which boxes are new, and the ports of all of them.
use Rattle.std.proofs.Common.{◌≡◌, ◌≢◌, ℕ, zero, suc, ◌+◌, ◌<◌, ◌≤◌, false, true, List, [], ◌∷◌, ◌++◌, map, Option, Some, None, IsSome, IsTrue, refl, sym, ap, ◌∙◌, subst, inl, inr, arith}
use Rattle.std.specs.Prelude.{slice_get, option_and_then, ◌⊎◌}
use mathlib.Core.Logic.{⊎_elim}
use Rattle.std.proofs.lemmas.Bool.{cases_eq, both_ways}
use Rattle.std.proofs.lemmas.Option.{none-some, same_Some}
use Rattle.slab.specs.Slab.{get}
use Rattle.pd_order.proofs.Basics.{by_test}
use Rattle.pd_object.specs.declared.kinds.Kind.{Kind}
use Rattle.pd_grove.specs.declared.nodes.Node.{Node}
use Rattle.pd_grove.specs.declared.boards.Board.{Board}
use Rattle.pd_grove.specs.declared.grove.Grove.{Grove}
use Rattle.pd_grove.specs.declared.ports.Side.{Side}
use Rattle.pd_grove.specs.declared.ports.PortSpot.{PortSpot}
use Rattle.pd_grove.specs.Ports.{port_signal, spot_by, node_spot, spot_at, with_spot, ports_among}
use Rattle.pd_grove.specs.Telling.{inner_in, keys_in}
use Rattle.pd_grove.specs.Owning.{board_in}
use Rattle.pd_grove.specs.Forest.{holder_in, IsForest}
use Rattle.pd_grove.specs.Grafts.{HasPartMore, TakesBox, LiesInBox}
use Rattle.pd_grove.proofs.ForestLemmas.{box_there}
use Rattle.pd_grove.proofs.UseLemmas.{none_or_some, not_both}
use Rattle.pd_forest_law.proofs.PartLemmas.{forest_part}
use Rattle.pd_forest_law.proofs.TakenBackLemmas.{taken_back}
use Rattle.pd_owning.specs.Bound.{is_among}
use Rattle.pd_owning.specs.Parts.{ArePart}
use Rattle.pd_clearing.proofs.PartLemmas.{key_among, part_live, inside, held_inside, in_box, box_gone, box_stays}
use Rattle.pd_web.specs.declared.jacks.Jack.{Jack}
use Rattle.pd_web.specs.Homes.{IsPortOf, inner_in as box_in}
use Rattle.pd_web.specs.Jacks.{spot_jack, canvas_jacks, jacks_by, jacks_in, jacks_at}
use Rattle.pd_ports.specs.Known.{HoldAlone}
use Rattle.pd_ports.proofs.OnceLemmas.{port_stands, port_once}

-- No box is a port of two.

pub hold_alone : (g : Grove) → IsForest (get g.nodes) (get g.boards) g.root → HoldAlone g
hold_alone g F k l c a b = same_Some k l (sym (F.inside k c a) ∙ F.inside l c b)

pub one_home : (g : Grove) → IsForest (get g.nodes) (get g.boards) g.root → (j a b i m : ℕ) → IsPortOf g j a i → IsPortOf g j b m → a ≡ b
one_home g F j a b i m R S = (port_once g R.side S.side a b i m j F.own (hold_alone g F) R.told S.told).0

-- Ports among boxes.

spots_same : (side : Side) (nodes nodes' : ℕ → Option Node) (ks : List ℕ) → ((i k : ℕ) → slice_get ks i ≡ Some k → nodes' k ≡ nodes k) → ports_among side nodes' ks ≡ ports_among side nodes ks
spots_same side nodes nodes' [] h = refl
spots_same side nodes nodes' (k ∷ ks) h =
    ap (λ (o : Option Node). with_spot (option_and_then (node_spot side k) o) (ports_among side nodes' ks)) (h zero k refl)
    ∙ ap (with_spot (spot_at side nodes k)) (spots_same side nodes nodes' ks (λ i. h (suc i)))

spots_more : (side : Side) (nodes : ℕ → Option Node) (a b : List ℕ) (k : ℕ) → spot_at side nodes k ≡ None → ports_among side nodes (a ++ k ∷ b) ≡ ports_among side nodes (a ++ b)
spots_more side nodes [] b k e = ap (λ (o : Option PortSpot). with_spot o (ports_among side nodes b)) e
spots_more side nodes (x ∷ a) b k e = ap (with_spot (spot_at side nodes x)) (spots_more side nodes a b k e)

no_spot : (side : Side) (nodes : ℕ → Option Node) (k : ℕ) (n : Node) → nodes k ≡ Some n → port_signal side n.kind ≡ None → spot_at side nodes k ≡ None
no_spot side nodes k n is e = ap (option_and_then (node_spot side k)) is ∙ ap (spot_by k n.element.x) e

lives : (o : Option Node) (x : ℕ) → board_in o ≡ Some x → IsSome o
lives None x h = absurd (none-some x h)
lives (Some n) x h = refl

-- A box came to g, and then it is h.
module _ (g h : Grove) (c key : ℕ) (before behind : List ℕ) (F : IsForest (get g.nodes) (get g.boards) g.root) (root : h.root ≡ g.root)
    (M : HasPartMore (get g.nodes) (get h.nodes) (get g.boards) (get h.boards) c key before behind) where
  pub forest : IsForest (get h.nodes) (get h.boards) h.root
  forest = subst (λ (r : ℕ). IsForest (get h.nodes) (get h.boards) r) (sym root) (forest_part (get g.nodes) (get h.nodes) (get g.boards) (get h.boards) g.root c key before behind M F)

  pub here : (n : Node) × (get h.nodes key ≡ Some n)
  here = let B = box_there (get h.nodes key) c M.lies in (B.node, B.is)

  pub key_live : IsSome (get h.nodes key)
  key_live = lives (get h.nodes key) c M.lies

  pub back : TakesBox (get h.nodes) (get g.nodes) (get h.boards) (get g.boards) c key here.0 before behind
  back = taken_back (get g.nodes) (get h.nodes) (get g.boards) (get h.boards) g.root c key here.0 before behind M F here.1

  module _ (part : List ℕ) (A : ArePart (get h.nodes) (get h.boards) key part) where
    pub vacant : (k : ℕ) → IsTrue (is_among part k) → get g.nodes k ≡ None
    vacant = box_gone (get h.nodes) (get h.boards) h.root forest key part A (get g.nodes) (get g.boards) c here.0 before behind back

    pub stays : (k : ℕ) → is_among part k ≡ false → get h.nodes k ≡ get g.nodes k
    stays k out = sym (box_stays (get h.nodes) (get h.boards) h.root forest key part A (get g.nodes) (get g.boards) c here.0 before behind back k out)

    pub live : (k : ℕ) → IsTrue (is_among part k) → IsSome (get h.nodes k)
    live = part_live (get h.nodes) (get h.boards) h.root forest key part A key_live

    pub only : (k : ℕ) → get g.nodes k ≡ None → IsSome (get h.nodes k) → IsTrue (is_among part k)
    only k none some = by_test (is_among part k)
        (λ t. t)
        (λ f. absurd (not_both (get h.nodes k) (stays k f ∙ none) some))

    pub out_of_part : (k : ℕ) → IsSome (get g.nodes k) → is_among part k ≡ false
    out_of_part k some = by_test (is_among part k)
        (λ t. absurd (not_both (get g.nodes k) (vacant k t) some))
        (λ f. f)

    -- a box of a canvas that came is one of these
    pub came_inside : (k x : ℕ) → get g.boards x ≡ None → board_in (get h.nodes k) ≡ Some x → IsTrue (is_among part k)
    came_inside k x new lies = by_test (is_among part k)
        (λ t. t)
        (λ f.
        let P = F.placed k x (sym (ap board_in (stays k f)) ∙ lies) in
        absurd (none-some k (sym (ap (λ o. slice_get (keys_in o) P.0) new) ∙ P.1)))

    -- a box that is a port of one of these is one of these
    pub port_inside : (j k i : ℕ) → IsTrue (is_among part k) → IsPortOf h j k i → IsTrue (is_among part j)
    port_inside j k i t R =
        let S = port_stands h R.side k i j R.told in
        inside (get h.nodes) (get h.boards) h.root forest key part A j S.canvas (forest.own.home S.canvas S.place j S.at)
        (held_inside (get h.nodes) (get h.boards) h.root forest key part A k S.canvas t S.held)

    -- The other boxes have the ports that they had.

    module _ (N : (holder_in (get g.boards c) ≡ None) ⊎ ((n : Node) → get h.nodes key ≡ Some n → (side : Side) → port_signal side n.kind ≡ None)) where
      canvas_same : (side : Side) (l d : ℕ) → inner_in (get g.nodes l) ≡ Some d → canvas_jacks side h d ≡ canvas_jacks side g d
      canvas_same side l d held = ⊎_elim near far (cases_eq d c)
        where
          there : IsSome (get g.boards d)
          there = by (holder_in (get g.boards d)) (F.inside l d held)
            where
              by : (o : Option ℕ) → o ≡ Some l → IsSome (get g.boards d)
              by o e = ⊎_elim (λ (none : get g.boards d ≡ None). absurd (none-some l (sym (ap holder_in none) ∙ F.inside l d held))) (λ (s : IsSome (get g.boards d)). s) (none_or_some (get g.boards d))

          far : d ≢ c → canvas_jacks side h d ≡ canvas_jacks side g d
          far away =
              ap (λ o. map spot_jack (ports_among side (get h.nodes) (keys_in o))) (M.canvases_stay d away there)
              ∙ ap (map spot_jack) (spots_same side (get g.nodes) (get h.nodes) (keys_in (get g.boards d)) (λ i k at. M.boxes_stay k (lives (get g.nodes k) d (F.own.home d i k at))))

          plain : port_signal side here.0.kind ≡ None → canvas_jacks side h c ≡ canvas_jacks side g c
          plain e =
              ap (λ ks. map spot_jack (ports_among side (get h.nodes) ks)) M.has
              ∙ ap (map spot_jack) (spots_more side (get h.nodes) before behind key (no_spot side (get h.nodes) key here.0 here.1 e))
              ∙ ap (map spot_jack) (spots_same side (get g.nodes) (get h.nodes) (before ++ behind) (λ i k at. M.boxes_stay k (lives (get g.nodes k) c (F.own.home c i k (ap (λ ks. slice_get ks i) M.had ∙ at)))))
              ∙ sym (ap (λ ks. map spot_jack (ports_among side (get g.nodes) ks)) M.had)

          near : d ≡ c → canvas_jacks side h d ≡ canvas_jacks side g d
          near same = ⊎_elim
              (λ (free : holder_in (get g.boards c) ≡ None). absurd (none-some l (sym free ∙ ap (λ x. holder_in (get g.boards x)) (sym same) ∙ F.inside l d held)))
              (λ (none : (n : Node) → get h.nodes key ≡ Some n → (s : Side) → port_signal s n.kind ≡ None).
              subst (λ x. canvas_jacks side h x ≡ canvas_jacks side g x) (sym same) (plain (none here.0 here.1 side))) N

      inner_same : (side : Side) (kind : Kind) (o : Option ℕ) → ((d : ℕ) → o ≡ Some d → canvas_jacks side h d ≡ canvas_jacks side g d) → jacks_by side h kind o ≡ jacks_by side g kind o
      inner_same side kind None e = refl
      inner_same side kind (Some d) e = e d refl

      node_same : (side : Side) (l : ℕ) (o : Option Node) → get g.nodes l ≡ o → jacks_in side h o ≡ jacks_in side g o
      node_same side l None e = refl
      node_same side l (Some m) e = inner_same side m.kind m.inner (λ d q. canvas_same side l d (ap inner_in e ∙ q))

      pub jacks_stay : (side : Side) (k : ℕ) → is_among part k ≡ false → jacks_at side h k ≡ jacks_at side g k
      jacks_stay side k out = ap (jacks_in side h) (stays k out) ∙ node_same side k (get g.nodes k) refl
