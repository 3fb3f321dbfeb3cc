-- Which port of the box around a box of a running patch is, or that it is none.
use Rattle.std.proofs.Common.{◌≡◌, ℕ, zero, suc, ◌<◌, ◌≤◌, Bool, List, [], ◌∷◌, ◌++◌, map, length, slice_get, Option, Some, None, IsSome, inl, inr, true≢false, refl, sym, ap, ◌∙◌, subst}
use Rattle.std.specs.Prelude.{option_and_then, option_map}
use Rattle.std.proofs.lemmas.Option.{none-some, same_Some, slice_get-map}
use Rattle.slab.specs.Slab.{get}
use Rattle.pd_grove.specs.declared.grove.Grove.{Grove}
use Rattle.pd_grove.specs.declared.nodes.Node.{Node}
use Rattle.pd_grove.specs.declared.ports.PortSpot.{PortSpot}
use Rattle.pd_grove.specs.declared.ports.Side.{Side}
use Rattle.pd_grove.specs.Forest.{holder_in}
use Rattle.pd_grove.specs.Ports.{port_signal, spot_by, node_spot, ports_among}
use Rattle.pd_grove.specs.Telling.{inner_in}
use Rattle.pd_web.specs.declared.jacks.Jack.{Jack}
use Rattle.pd_web.specs.Canvases.{keys_at}
use Rattle.pd_web.specs.Changes.{Meet}
use Rattle.pd_web.specs.Homes.{inner_in as box_in, IsPortOf}
use Rattle.pd_web.specs.Hops.{port_told}
use Rattle.pd_web.specs.Jacks.{spot_jack, jacks_at}
use Rattle.pd_patch.specs.declared.patch.Patch.{Patch}
use Rattle.pd_patch.proofs.BlockLemmas.{live_below}
use Rattle.pd_boxes.specs.declared.room.Place.{Place}
use Rattle.pd_boxes.specs.Put.{CanPut, IsNoPort}
use Rattle.pd_ports.proofs.OnceLemmas.{Stands, port_stands}
use Rattle.pd_clearing.specs.Clearing.{CanClear}
use Rattle.pd_following.specs.Ports.{port_jack}
use Rattle.pd_following.proofs.JackLemmas.{ports_held}
use Rattle.pd_following.proofs.ListLemmas.{insert_here}
use Rattle.pd_following.proofs.SpotLemmas.{among_more, port_spot}
use Rattle.pd_leaving.specs.Leaving.{CanTakePort}

-- a list around one of its elements
record IsSplit (ks : List ℕ) (k : ℕ) : Type 0 where
  before : List ℕ
  behind : List ℕ
  is : ks ≡ before ++ k ∷ behind

split_at : (ks : List ℕ) (i k : ℕ) → slice_get ks i ≡ Some k → IsSplit ks k
split_at [] i k h = absurd (none-some k h)
split_at (x ∷ ks) zero k h = record { before = []; behind = ks; is = ap (λ y. y ∷ ks) (same_Some x k h) }
split_at (x ∷ ks) (suc i) k h = let R = split_at ks i k h in record { before = x ∷ R.before; behind = R.behind; is = ap (λ ys. x ∷ ys) R.is }

-- a port box of a canvas stands among the ports of the box that holds it
port_among : (g : Grove) (side : Side) (holder c number key : ℕ) (n : Node) → inner_in (get g.nodes holder) ≡ Some c → slice_get (keys_at g c) number ≡ Some key
    → get g.nodes key ≡ Some n → IsSome (port_signal side n.kind) → (i : ℕ) × (box_in (slice_get (jacks_at side g holder) i) ≡ Some key)
port_among g side holder c number key n holds is was port =
    let K = split_at (keys_at g c) number key is in
    let S = port_spot side (get g.nodes) key n was port in
    let M = among_more side (get g.nodes) K.before K.behind key S.spot S.is in
    let fewer = ports_among side (get g.nodes) (K.before ++ K.behind) in
    let more = ports_among side (get g.nodes) (K.before ++ key ∷ K.behind) in
    let at : slice_get more M.place ≡ Some S.spot = ap (λ (ps : List PortSpot). slice_get ps M.place) M.is ∙ insert_here fewer M.place S.spot M.within in
    let jack : slice_get (map spot_jack more) M.place ≡ Some (port_jack side n.kind key) = slice_get-map spot_jack more M.place ∙ ap (option_map spot_jack) at ∙ ap (λ (j : Jack). Some j) S.jack in (
      M.place,
      ap (λ (js : List Jack). box_in (slice_get js M.place)) (ports_held g side holder c holds)
          ∙ ap (λ (ks : List ℕ). box_in (slice_get (map spot_jack (ports_among side (get g.nodes) ks)) M.place)) K.is
          ∙ ap box_in jack,
    )

-- a box that is a port by its place has a kind of that side
record IsSided (side : Side) (o : Option Node) : Type 0 where
  node : Node
  is : o ≡ Some node
  port : IsSome (port_signal side node.kind)

sided : (side : Side) (k : ℕ) (o : Option Node) → IsSome (option_and_then (node_spot side k) o) → IsSided side o
sided side k None h = absurd (true≢false (sym h))
sided side k (Some n) h = record { node = n; is = refl; port = by (port_signal side n.kind) h }
  where
    by : (o : Option Bool) → IsSome (spot_by k n.element.x o) → IsSome o
    by None e = absurd (true≢false (sym e))
    by (Some b) e = refl

module _ (p : Patch) (place : Place) (key : ℕ) (C : CanPut p) (is : slice_get (keys_at p.grove place.canvas) place.number ≡ Some key) where
  -- a box that is known to be no port is none
  pub no_port : port_told p.web key ≡ None → (n : Node) → get p.grove.nodes key ≡ Some n → IsNoPort p place n.kind
  no_port none n was = by (holder_in (get p.grove.boards place.canvas)) refl
    where
      never : (holder : ℕ) → holder_in (get p.grove.boards place.canvas) ≡ Some holder → (side : Side) → IsSome (port_signal side n.kind) → ⊥
      never holder held side port =
          let A = port_among p.grove side holder place.canvas place.number key n (C.forest.held place.canvas holder held) is was port in
          let found : IsSome (port_told p.web key) = C.runs.ports.homes_found key holder A.0 (record { side = side; told = A.1 }) in
          true≢false (sym (subst (λ (o : Option (ℕ × ℕ)). IsSome o) none found))

      by_side : (holder : ℕ) → holder_in (get p.grove.boards place.canvas) ≡ Some holder → (side : Side) (o : Option Bool) → port_signal side n.kind ≡ o → port_signal side n.kind ≡ None
      by_side holder held side None e = e
      by_side holder held side (Some b) e = absurd (never holder held side (subst (λ (o : Option Bool). IsSome o) (sym e) refl))

      by : (o : Option ℕ) → holder_in (get p.grove.boards place.canvas) ≡ o → IsNoPort p place n.kind
      by None e = inl e
      by (Some holder) e = inr (λ side. by_side holder e side (port_signal side n.kind) refl)

  pub can_clear : Meet p.web → port_told p.web key ≡ None → CanClear p place key
  can_clear meet none = record { can = C; is = is; plain = no_port none; meet = meet }

  -- a box that is known to be a port is that one
  module _ (holder port : ℕ) (told : port_told p.web key ≡ Some (holder, port)) where
    home : IsPortOf p.grove key holder port
    home = C.runs.ports.homes key holder port told

    stands : Stands p.grove home.side holder key
    stands = port_stands p.grove home.side holder port key home.told

    sides : IsSided home.side (get p.grove.nodes key)
    sides = sided home.side key (get p.grove.nodes key) stands.spot

    lies : stands.canvas ≡ place.canvas
    lies = same_Some stands.canvas place.canvas
        (sym (C.forest.own.home stands.canvas stands.place key stands.at) ∙ C.forest.own.home place.canvas place.number key is)

    held : holder_in (get p.grove.boards place.canvas) ≡ Some holder
    held = C.forest.inside holder place.canvas (stands.held ∙ ap (λ c. Some c) lies)

    pub can_take : (side : Side) → ((n : Node) (s : Side) → get p.grove.nodes key ≡ Some n → IsSome (port_signal s n.kind) → side ≡ s) → Meet p.web → inner_in (get p.grove.nodes key) ≡ None
        → ((k : ℕ) → IsSome (get p.grove.nodes k) → k < length p.values.items) → CanTakePort p place key holder side port
    can_take side on meet leaf reached = record {
      can = C;
      meet = meet;
      is = is;
      node = sides.node;
      stands = sides.is;
      leaf = sym (ap inner_in sides.is) ∙ leaf;
      at = record {
        held = held;
        port = subst (λ (s : Side). IsSome (port_signal s sides.node.kind)) (sym (on sides.node home.side sides.is sides.port)) sides.port;
      };
      numbered = told;
      reached = reached;
    }

-- Keys of boxes.

-- below the end every box has a place for its blocks
pub places_reach : (g : Grove) (end count reach : ℕ) → length g.nodes.slots ≤ count → end ≡ count → ((k : ℕ) → k < end → IsSome (get g.nodes k) → k < reach)
    → (k : ℕ) → IsSome (get g.nodes k) → k < reach
places_reach g end count reach far is below k live = below k (live_below g.nodes k count end far is live) live
