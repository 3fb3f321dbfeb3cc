-- The ports of boxes, where a box without a canvas inside came that is no port of a box around.
use Rattle.std.proofs.Common.{◌≡◌, ◌≢◌, ℕ, zero, suc, Bool, List, [], ◌∷◌, ◌++◌, map, Option, Some, None, IsSome, refl, sym, ap, ◌∙◌, subst}
use Rattle.std.specs.Prelude.{slice_get, option_and_then, ◌⊎◌}
use mathlib.Core.Logic.{⊎_elim}
use Rattle.std.proofs.lemmas.Bool.{cases_eq}
use Rattle.std.proofs.lemmas.Option.{none-some}
use Rattle.slab.specs.Slab.{get}
use Rattle.pd_object.specs.declared.kinds.Kind.{Kind}
use Rattle.pd_tree.specs.Ports.{is_made, sockets_of}
use Rattle.pd_grove.specs.declared.nodes.Node.{Node}
use Rattle.pd_grove.specs.declared.grove.Grove.{Grove}
use Rattle.pd_grove.specs.declared.ports.Side.{Side}
use Rattle.pd_grove.specs.declared.ports.PortSpot.{PortSpot}
use Rattle.pd_grove.specs.Ports.{port_signal, spot_by, node_spot, spot_at, with_spot, ports_among}
use Rattle.pd_grove.specs.Telling.{inner_in, keys_in}
use Rattle.pd_grove.specs.Forest.{holder_in, IsForest}
use Rattle.pd_grove.specs.Grafts.{HasBoxMore}
use Rattle.pd_grove.proofs.GraftLemmas.{keys_had, keys_has, not_new}
use Rattle.pd_web.specs.declared.jacks.Jack.{Jack}
use Rattle.pd_web.specs.declared.web.Web.{Web}
use Rattle.pd_web.specs.Homes.{IsPortOf, inner_in as box_in}
use Rattle.pd_web.specs.Hops.{ports_told, port_told}
use Rattle.pd_web.specs.Jacks.{plain_jack, spot_jack, on_side, kind_jacks, canvas_jacks, jacks_by, jacks_in, jacks_at, made_by, made_in}
use Rattle.pd_web.specs.Sockets.{made_at}
use Rattle.pd_ports.specs.Boxes.{HasPorts as GetsPorts}
use Rattle.pd_patch.specs.Built.{HasPorts}

spots_same : (side : Side) (nodes nodes' : ℕ → Option Node) (ks : List ℕ) → ((i k : ℕ) → slice_get ks i ≡ Some k → nodes' k ≡ nodes k) → ports_among side nodes' ks ≡ ports_among side nodes ks
spots_same side nodes nodes' [] h = refl
spots_same side nodes nodes' (k ∷ ks) h =
    ap (λ (o : Option Node). with_spot (option_and_then (node_spot side k) o) (ports_among side nodes' ks)) (h zero k refl)
    ∙ ap (with_spot (spot_at side nodes k)) (spots_same side nodes nodes' ks (λ i. h (suc i)))

spots_more : (side : Side) (nodes : ℕ → Option Node) (a b : List ℕ) (k : ℕ) → spot_at side nodes k ≡ None → ports_among side nodes (a ++ k ∷ b) ≡ ports_among side nodes (a ++ b)
spots_more side nodes [] b k e = ap (λ (o : Option PortSpot). with_spot o (ports_among side nodes b)) e
spots_more side nodes (x ∷ a) b k e = ap (with_spot (spot_at side nodes x)) (spots_more side nodes a b k e)

no_spot : (side : Side) (nodes : ℕ → Option Node) (k : ℕ) (n : Node) → nodes k ≡ Some n → port_signal side n.kind ≡ None → spot_at side nodes k ≡ None
no_spot side nodes k n is e = ap (option_and_then (node_spot side k)) is ∙ ap (spot_by k n.element.x) e

plain_none : (bs : List Bool) (i : ℕ) → box_in (slice_get (map plain_jack bs) i) ≡ None
plain_none [] i = refl
plain_none (b ∷ bs) zero = refl
plain_none (b ∷ bs) (suc i) = plain_none bs i

module _ (g g' : Grove) (c k : ℕ) (n : Node) (a b : List ℕ) (M : HasBoxMore (get g.nodes) (get g'.nodes) (get g.boards) (get g'.boards) c k n a b) where
  -- the box that came has the ports of its kind
  pub jacks_new : (side : Side) → jacks_at side g' k ≡ kind_jacks side n.kind
  jacks_new side = ap (jacks_in side g') M.is ∙ ap (jacks_by side g' n.kind) M.bare

  pub made_new : made_in (get g'.nodes k) ≡ is_made n.kind
  made_new = ap made_in M.is ∙ ap (made_by n.kind) M.bare

  -- it had none before it came
  pub jacks_none : (side : Side) → jacks_at side g k ≡ []
  jacks_none side = ap (jacks_in side g) M.vacant

  -- none of its ports is a box
  pub no_home : (j i : ℕ) → IsPortOf g' j k i → ⊥
  no_home j i q =
      none-some j (sym (plain_none (on_side q.side (sockets_of n.kind)) i) ∙ sym (ap (λ (js : List Jack). box_in (slice_get js i)) (jacks_new q.side)) ∙ q.told)

  was_none : (j i : ℕ) → IsPortOf g j k i → ⊥
  was_none j i q = none-some j (sym (ap (λ (js : List Jack). box_in (slice_get js i)) (jacks_none q.side)) ∙ q.told)

  module _ (root : ℕ) (F : IsForest (get g.nodes) (get g.boards) root) (N : (holder_in (get g.boards c) ≡ None) ⊎ ((side : Side) → port_signal side n.kind ≡ None)) where
    canvas_same : (side : Side) (h d : ℕ) → inner_in (get g.nodes h) ≡ Some d → canvas_jacks side g' d ≡ canvas_jacks side g d
    canvas_same side h d held = ⊎_elim (here side h d held) (elsewhere side d) (cases_eq d c)
      where
        elsewhere : (side : Side) (d : ℕ) → d ≢ c → canvas_jacks side g' d ≡ canvas_jacks side g d
        elsewhere side d away =
            ap (λ o. map spot_jack (ports_among side (get g'.nodes) (keys_in o))) (M.keys.others d away)
            ∙ ap (map spot_jack) (spots_same side (get g.nodes) (get g'.nodes) (keys_in (get g.boards d)) (λ i l at. M.others l (not_new (get g.nodes) k l d M.vacant (F.own.home d i l at))))

        plain : (side : Side) → port_signal side n.kind ≡ None → canvas_jacks side g' c ≡ canvas_jacks side g c
        plain side e =
            let had = keys_had (get g.boards) (get g'.boards) c (a ++ b) (a ++ k ∷ b) M.keys in
            let has = keys_has (get g.boards) (get g'.boards) c (a ++ b) (a ++ k ∷ b) M.keys in
            ap (λ ks. map spot_jack (ports_among side (get g'.nodes) ks)) has
            ∙ ap (map spot_jack) (spots_more side (get g'.nodes) a b k (no_spot side (get g'.nodes) k n M.is e))
            ∙ ap (map spot_jack) (spots_same side (get g.nodes) (get g'.nodes) (a ++ b) (λ i l at. M.others l (not_new (get g.nodes) k l c M.vacant (F.own.home c i l (ap (λ ks. slice_get ks i) had ∙ at)))))
            ∙ sym (ap (λ ks. map spot_jack (ports_among side (get g.nodes) ks)) had)

        here : (side : Side) (h d : ℕ) → inner_in (get g.nodes h) ≡ Some d → d ≡ c → canvas_jacks side g' d ≡ canvas_jacks side g d
        here side h d held same = ⊎_elim
            (λ (free : holder_in (get g.boards c) ≡ None). absurd (none-some h (sym free ∙ ap (λ x. holder_in (get g.boards x)) (sym same) ∙ F.inside h d held)))
            (λ (none : (side : Side) → port_signal side n.kind ≡ None). subst (λ x. canvas_jacks side g' x ≡ canvas_jacks side g x) (sym same) (plain side (none side))) N

    inner_same : (side : Side) (kind : Kind) (o : Option ℕ) → ((d : ℕ) → o ≡ Some d → canvas_jacks side g' d ≡ canvas_jacks side g d) → jacks_by side g' kind o ≡ jacks_by side g kind o
    inner_same side kind None h = refl
    inner_same side kind (Some d) h = h d refl

    node_same : (side : Side) (l : ℕ) (o : Option Node) → get g.nodes l ≡ o → jacks_in side g' o ≡ jacks_in side g o
    node_same side l None e = refl
    node_same side l (Some m) e = inner_same side m.kind m.inner (λ d q. canvas_same side l d (ap inner_in e ∙ q))

    -- every other box has the ports that it had
    pub jacks_same : (side : Side) (l : ℕ) → l ≢ k → jacks_at side g' l ≡ jacks_at side g l
    jacks_same side l d = ap (jacks_in side g') (M.others l d) ∙ node_same side l (get g.nodes l) refl

    pub ports_kept : (w w' : Web) → HasPorts g w → GetsPorts w w' k (λ side. kind_jacks side n.kind) (is_made n.kind) → ((j : ℕ) → port_told w' j ≡ port_told w j) → HasPorts g' w'
    ports_kept w w' P G H = record {
      ports = λ side l. ⊎_elim
          (λ (e : l ≡ k). ap (ports_told w' side) e ∙ G.ports side ∙ sym (jacks_new side) ∙ ap (jacks_at side g') (sym e))
          (λ (d : l ≢ k). G.other_ports side l d ∙ P.ports side l ∙ sym (jacks_same side l d)) (cases_eq l k);
      made = λ l. ⊎_elim
          (λ (e : l ≡ k). ap (made_at w'.sockets.items) e ∙ G.made ∙ sym made_new ∙ ap (λ x. made_in (get g'.nodes x)) (sym e))
          (λ (d : l ≢ k). G.others_made l d ∙ P.made l ∙ ap made_in (sym (M.others l d))) (cases_eq l k);
      homes = λ j l i e. is_port j l i (P.homes j l i (sym (H j) ∙ e));
      homes_found = λ j l i q. ⊎_elim
          (λ (e : l ≡ k). absurd (no_home j i (subst (λ x. IsPortOf g' j x i) e q)))
          (λ (d : l ≢ k). subst (λ o. IsSome o) (sym (H j)) (P.homes_found j l i (record { side = q.side; told = sym (ap (λ (js : List Jack). box_in (slice_get js i)) (jacks_same q.side l d)) ∙ q.told })))
          (cases_eq l k);
    } where
      is_port : (j l i : ℕ) → IsPortOf g j l i → IsPortOf g' j l i
      is_port j l i q = ⊎_elim
          (λ (e : l ≡ k). absurd (was_none j i (subst (λ x. IsPortOf g j x i) e q)))
          (λ (d : l ≢ k). record { side = q.side; told = ap (λ (js : List Jack). box_in (slice_get js i)) (jacks_same q.side l d) ∙ q.told })
          (cases_eq l k)
