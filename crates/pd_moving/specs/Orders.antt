-- Feeds in order, where the outlets of a box get other places.
use Rattle.std.specs.Prelude.{◌≡◌, ◌≢◌, ◌<◌, ℕ, List, [], slice_get, Some}
use Rattle.pd_grove.specs.declared.grove.Grove.{Grove}
use Rattle.pd_grove.specs.declared.ports.Side.{Side}
use Rattle.pd_grove.specs.declared.ports.Side.TheVariants.{Outlets}
use Rattle.pd_web.specs.declared.jacks.Jack.{Jack}
use Rattle.pd_web.specs.declared.web.Hop.{Hop}
use Rattle.pd_web.specs.declared.web.Web.{Web}
use Rattle.pd_web.specs.Homes.{inner_in}
use Rattle.pd_web.specs.Jacks.{jacks_at}
use Rattle.pd_web.specs.Sockets.{made_at}
use Rattle.pd_web.specs.Hops.{ports_told, fan_keys, fan_hops, feed_hops, places_of}
use Rattle.pd_seek.specs.Places.{label_at, AreInOrder}
use Rattle.pd_web.specs.Changes.{line_by, line_told, hop_at}
use Rattle.pd_ports.specs.Moves.{Goes, FollowsPorts}
use Rattle.pd_moving.specs.Outlets.{lines_ahead, Lifts, Lays}

-- the feeds of every inlet are in order
abbrev pub AreAllInOrder : List ℕ → Web → Type 0
AreAllInOrder labels w = (node inlet : ℕ) → AreInOrder labels (feed_hops w node inlet)

-- the outlets of the box that have wires keep their order where its outlets become these
abbrev pub KeepTheirOrder : Web → ℕ → List Jack → Type 0
KeepTheirOrder w key jacks =
    (i j m n : ℕ) → fan_keys w key i ≢ [] → fan_keys w key j ≢ [] → i < j → Goes (ports_told w Outlets key) jacks i m → Goes (ports_told w Outlets key) jacks j n → m < n

-- of the boxes from which feeds come no other one has the label of this box
abbrev pub HasOwnLabel : List ℕ → Web → ℕ → Type 0
HasOwnLabel labels w key = (node inlet i : ℕ) (h : Hop) → slice_get (feed_hops w node inlet) i ≡ Some h → label_at labels h.node ≡ label_at labels key → h.node ≡ key

-- the outlets of the box that have wires, but for one, keep their order where its outlets become these
abbrev pub KeepTheirOrderBut : Web → ℕ → ℕ → List Jack → Type 0
KeepTheirOrderBut w key outlet jacks = (i j m n : ℕ) → i ≢ outlet → j ≢ outlet → fan_keys w key i ≢ [] → fan_keys w key j ≢ [] → i < j
    → Goes (ports_told w Outlets key) jacks i m → Goes (ports_told w Outlets key) jacks j n → m < n

-- the box is an outlet of the canvas that the box of the key holds
abbrev pub IsOutletThen : Grove → ℕ → ℕ → Type 0
IsOutletThen g key port = (m : ℕ) × (inner_in (slice_get (jacks_at Outlets g key) m) ≡ Some port)

-- the box has these outlets. The wires of each outlet lead from its new place to where they led, in the same order; a new one has none; and
-- wires from other boxes, the ports of other boxes, and the inlets of this one stay.
pub record MovesOutlet (w w' : Web) (key : ℕ) (jacks : List Jack) : Type 0 where
  pub ports : ports_told w' Outlets key ≡ jacks
  pub other_ports : (s : Side) (k : ℕ) → (k ≡ key → s ≢ Outlets) → ports_told w' s k ≡ ports_told w s k
  pub made : (k : ℕ) → made_at w'.sockets.items k ≡ made_at w.sockets.items k
  pub fans : (i m : ℕ) → Goes (ports_told w Outlets key) jacks i m → places_of (fan_hops w' key m) ≡ places_of (fan_hops w key i)
  pub came : (m : ℕ) → ((i : ℕ) → Goes (ports_told w Outlets key) jacks i m → ⊥) → fan_hops w' key m ≡ []
  pub other_fans : (n o : ℕ) → n ≢ key → fan_hops w' n o ≡ fan_hops w n o

-- The wires of an outlet are out at first; then the box has these outlets, and wires go with their ports; and then the wires of the one are in at the place
-- that it has now.
pub record MovesBySteps (w w' : Web) (labels : List ℕ) (key outlet : ℕ) (jacks : List Jack) : Type 0 where
  pub lifted : Web
  pub lifts : Lifts w lifted key outlet
  pub fans : (n o i : ℕ) (h : Hop) → slice_get (fan_hops lifted n o) i ≡ Some h → line_told lifted h.key ≡ Some (line_by (hop_at h.key n o) h)
  pub feeds : (n inlet i : ℕ) (h : Hop) → slice_get (feed_hops lifted n inlet) i ≡ Some h → line_told lifted h.key ≡ Some (line_by h (hop_at h.key n inlet))
  pub followed : Web
  pub follows : FollowsPorts lifted followed key Outlets jacks
  pub place : ℕ
  pub goes : Goes (ports_told w Outlets key) jacks outlet place
  pub lays : Lays followed w' labels key place (lines_ahead key outlet (fan_hops w key outlet))
