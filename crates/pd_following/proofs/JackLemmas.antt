-- The ports of boxes where a port box came into a canvas that a box holds.
use Rattle.std.proofs.Common.{◌≡◌, ◌≢◌, ℕ, zero, suc, ◌<◌, Bool, List, [], ◌∷◌, ◌++◌, map, length, slice_get, Option, Some, None, IsSome, inl, inr, refl, sym, ap, ◌∙◌, subst, arith}
use Rattle.std.specs.List.{insert}
use Rattle.std.proofs.lemmas.Bool.{cases_eq}
use Rattle.std.proofs.lemmas.List.{length-map}
use Rattle.std.proofs.lemmas.Option.{none-some, same_Some}
use Rattle.slab.specs.Slab.{get}
use Rattle.pd_object.specs.declared.kinds.Kind.{Kind}
use Rattle.pd_tree.specs.Ports.{sockets_of}
use Rattle.pd_grove.specs.declared.nodes.Node.{Node}
use Rattle.pd_grove.specs.declared.boards.Board.{Board}
use Rattle.pd_grove.specs.declared.grove.Grove.{Grove}
use Rattle.pd_grove.specs.declared.ports.Side.{Side}
use Rattle.pd_grove.specs.declared.ports.PortSpot.{PortSpot}
use Rattle.pd_grove.specs.Forest.{holder_in, IsForest}
use Rattle.pd_grove.specs.Grafts.{HasBoxMore}
use Rattle.pd_grove.specs.Ports.{port_signal, ports_among}
use Rattle.pd_grove.specs.Telling.{inner_in, keys_in}
use Rattle.pd_grove.proofs.GraftLemmas.{keys_had, keys_has, not_new, not_held}
use Rattle.pd_web.specs.declared.jacks.Jack.{Jack}
use Rattle.pd_web.specs.Homes.{inner_in as box_in}
use Rattle.pd_web.specs.Jacks.{plain_jack, spot_jack, on_side, kind_jacks, canvas_jacks, jacks_by, jacks_in, jacks_at}
use Rattle.pd_following.specs.Ports.{port_jack}
use Rattle.pd_following.proofs.ListLemmas.{map_insert}
use Rattle.pd_following.proofs.SpotLemmas.{HasMore, among_more, among_same, spots_same, no_spot, port_spot, one_side}

-- the ports of a box that holds a canvas
pub ports_held : (g : Grove) (side : Side) (key c : ℕ) → inner_in (get g.nodes key) ≡ Some c → jacks_at side g key ≡ canvas_jacks side g c
ports_held g side key c h = by_node (get g.nodes key) h
  where
    by_node : (o : Option Node) → inner_in o ≡ Some c → jacks_in side g o ≡ canvas_jacks side g c
    by_node None e = absurd (none-some c e)
    by_node (Some n) e = ap (jacks_by side g n.kind) e

-- each of them is a box
spot_boxes : (spots : List PortSpot) (i : ℕ) → i < length (map spot_jack spots) → IsSome (box_in (slice_get (map spot_jack spots) i))
spot_boxes [] i l = absurd (omega (arith, l))
spot_boxes (s ∷ spots) zero l = refl
spot_boxes (s ∷ spots) (suc i) l = spot_boxes spots i (omega (arith, l))

plain_none : (bs : List Bool) (i : ℕ) → box_in (slice_get (map plain_jack bs) i) ≡ None
plain_none [] i = refl
plain_none (b ∷ bs) zero = refl
plain_none (b ∷ bs) (suc i) = plain_none bs i

-- no port of a kind is a box
pub kind_none : (side : Side) (kind : Kind) (i : ℕ) → box_in (slice_get (kind_jacks side kind) i) ≡ None
kind_none side kind i = plain_none (on_side side (sockets_of kind)) i

module _ (g g' : Grove) (c k : ℕ) (n : Node) (a b : List ℕ) (M : HasBoxMore (get g.nodes) (get g'.nodes) (get g.boards) (get g'.boards) c k n a b) (root : ℕ)
    (F : IsForest (get g.nodes) (get g.boards) root) (h : ℕ) (held : holder_in (get g.boards c) ≡ Some h) (side : Side) (port : IsSome (port_signal side n.kind)) where
  pub holds : inner_in (get g.nodes h) ≡ Some c
  holds = F.held c h held

  pub holder_old : h ≢ k
  holder_old = not_held (get g.nodes) k h c M.vacant holds

  pub holds_still : inner_in (get g'.nodes h) ≡ Some c
  holds_still = ap inner_in (M.others h holder_old) ∙ holds

  old_nodes : (d i l : ℕ) → slice_get (keys_in (get g.boards d)) i ≡ Some l → get g'.nodes l ≡ get g.nodes l
  old_nodes d i l at = M.others l (not_new (get g.nodes) k l d M.vacant (F.own.home d i l at))

  had : keys_in (get g.boards c) ≡ a ++ b
  had = keys_had (get g.boards) (get g'.boards) c (a ++ b) (a ++ k ∷ b) M.keys

  has : keys_in (get g'.boards c) ≡ a ++ k ∷ b
  has = keys_has (get g.boards) (get g'.boards) c (a ++ b) (a ++ k ∷ b) M.keys

  old_jacks : (s : Side) → map spot_jack (ports_among s (get g'.nodes) (a ++ b)) ≡ canvas_jacks s g c
  old_jacks s =
      ap (map spot_jack) (spots_same s (get g.nodes) (get g'.nodes) (a ++ b) (λ i l at. old_nodes c i l (ap (λ (ks : List ℕ). slice_get ks i) had ∙ at)))
      ∙ ap (λ (ks : List ℕ). map spot_jack (ports_among s (get g.nodes) ks)) (sym had)

  canvas_more : HasMore (canvas_jacks side g c) (canvas_jacks side g' c) (port_jack side n.kind k)
  canvas_more =
      let S = port_spot side (get g'.nodes) k n M.is port in
      let A = among_more side (get g'.nodes) a b k S.spot S.is in
      let long = length-map (ports_among side (get g'.nodes) (a ++ b)) spot_jack in
      let same = ap length (old_jacks side) in
      let w = A.within in
      record {
        place = A.place;
        within = omega (arith, long, same, w);
        is = ap (λ (ks : List ℕ). map spot_jack (ports_among side (get g'.nodes) ks)) has ∙ ap (map spot_jack) A.is
            ∙ map_insert spot_jack (ports_among side (get g'.nodes) (a ++ b)) A.place S.spot
            ∙ ap (λ (js : List Jack). insert js A.place (spot_jack S.spot)) (old_jacks side) ∙ ap (insert (canvas_jacks side g c) A.place) S.jack;
      }

  canvas_plain : (s : Side) → s ≢ side → canvas_jacks s g' c ≡ canvas_jacks s g c
  canvas_plain s d =
      ap (λ (ks : List ℕ). map spot_jack (ports_among s (get g'.nodes) ks)) has
      ∙ ap (map spot_jack) (among_same s (get g'.nodes) a b k (no_spot s (get g'.nodes) k n M.is (one_side s side n.kind port d)))
      ∙ old_jacks s

  canvas_elsewhere : (s : Side) (d : ℕ) → d ≢ c → canvas_jacks s g' d ≡ canvas_jacks s g d
  canvas_elsewhere s d away =
      ap (λ (o : Option Board). map spot_jack (ports_among s (get g'.nodes) (keys_in o))) (M.keys.others d away)
      ∙ ap (map spot_jack) (spots_same s (get g.nodes) (get g'.nodes) (keys_in (get g.boards d)) (λ i l at. old_nodes d i l at))

  -- the box around has one port more
  pub jacks_more : HasMore (jacks_at side g h) (jacks_at side g' h) (port_jack side n.kind k)
  jacks_more =
      subst (λ (js : List Jack). HasMore js (jacks_at side g' h) (port_jack side n.kind k)) (sym (ports_held g side h c holds))
      (subst (λ (js : List Jack). HasMore (canvas_jacks side g c) js (port_jack side n.kind k)) (sym (ports_held g' side h c holds_still)) canvas_more)

  pub holder_boxes : (i : ℕ) → i < length (jacks_at side g h) → IsSome (box_in (slice_get (jacks_at side g h) i))
  holder_boxes i = subst (λ (js : List Jack). i < length js → IsSome (box_in (slice_get js i))) (sym (ports_held g side h c holds)) (spot_boxes (ports_among side (get g.nodes) (keys_in (get g.boards c))) i)

  canvas_same : (s : Side) (l d : ℕ) → (l ≡ h → s ≢ side) → inner_in (get g.nodes l) ≡ Some d → canvas_jacks s g' d ≡ canvas_jacks s g d
  canvas_same s l d differ held_there = elim (cases_eq d c) [
    | inl e ↦
        let around : l ≡ h = same_Some l h (sym (F.inside l d held_there) ∙ ap (λ x. holder_in (get g.boards x)) e ∙ held) in
        ap (canvas_jacks s g') e ∙ canvas_plain s (differ around) ∙ sym (ap (canvas_jacks s g) e)
    | inr away ↦ canvas_elsewhere s d away
  ]

  inner_same : (s : Side) (kind : Kind) (o : Option ℕ) → ((d : ℕ) → o ≡ Some d → canvas_jacks s g' d ≡ canvas_jacks s g d) → jacks_by s g' kind o ≡ jacks_by s g kind o
  inner_same s kind None e = refl
  inner_same s kind (Some d) e = e d refl

  node_same : (s : Side) (l : ℕ) → (l ≡ h → s ≢ side) → (o : Option Node) → get g.nodes l ≡ o → jacks_in s g' o ≡ jacks_in s g o
  node_same s l differ None e = refl
  node_same s l differ (Some m) e = inner_same s m.kind m.inner (λ d q. canvas_same s l d differ (ap inner_in e ∙ q))

  -- every other box has the ports that it had, and the box around has those of the other side
  pub jacks_same : (s : Side) (l : ℕ) → l ≢ k → (l ≡ h → s ≢ side) → jacks_at s g' l ≡ jacks_at s g l
  jacks_same s l d differ = ap (jacks_in s g') (M.others l d) ∙ node_same s l differ (get g.nodes l) refl
