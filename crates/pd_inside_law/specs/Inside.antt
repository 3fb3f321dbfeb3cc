-- The wires of all canvases of a running patch, those inside abstractions too.
use Rattle.std.specs.Prelude.{◌≡◌, ℕ, List, map, slice_get, Some, None}
use Rattle.pd_canvas.specs.Wiring.{fan_out}
use Rattle.pd_tree.specs.Trees.{Tree}
use Rattle.pd_tree.specs.Ports.{sockets_in, trimmed_sheet}
use Rattle.pd_grove.specs.declared.grove.Grove.{Grove}
use Rattle.pd_grove.specs.OwnPaths.{sub_reached}
use Rattle.pd_web.specs.declared.web.Web.{Web}
use Rattle.pd_web.specs.Canvases.{keys_at, sink_place, source_place, fan_into}
use Rattle.pd_web.specs.Changes.{Meet}
use Rattle.pd_web.specs.Hops.{boxes_told, fan_hops, feed_hops, places_of}
use Rattle.pd_patch.specs.declared.patch.Patch.{Patch}
use Rattle.pd_patch.specs.Wired.{LeadsHere}
use Rattle.pd_saved_law.specs.Fitting.{HaveSameWires}
use Rattle.pd_alike_law.specs.Alike.{HaveSameOrder}
use Rattle.pd_alike_law.specs.Feeds.{FedOnce, FeedsInOrder, HaveSameFeeds}

-- the boxes of these keys have the ports of the boxes of a canvas of a tree, and of its wires those that fit
pub record HasWiresOf (w : Web) (keys : List ℕ) (u : Tree) : Type 0 where
  pub ports : boxes_told w keys ≡ sockets_in u.boxes
  pub fans : (i outlet k : ℕ) → slice_get keys i ≡ Some k
      → places_of (fan_hops w k outlet) ≡ map (sink_place keys) (fan_out i outlet (trimmed_sheet u.boxes u.sheet).wires)
  pub feeds : (i inlet k : ℕ) → slice_get keys i ≡ Some k
      → places_of (feed_hops w k inlet) ≡ map (source_place keys) (fan_into i inlet (trimmed_sheet u.boxes u.sheet).wires)

-- a path leads to the canvas of a key, which is this one of the tree, and not through subpatches alone
pub record LeadsInside (g : Grove) (t : Tree) (path : List ℕ) (c : ℕ) (u : Tree) : Type 0 where
  pub here : LeadsHere g t path c u
  pub inside : sub_reached g (Some g.root) path ≡ None

-- each canvas inside an abstraction has the ports and the wires that it has in the tree
pub record IsWiredInside (g : Grove) (w : Web) (t : Tree) : Type 0 where
  pub all : (path : List ℕ) (c : ℕ) (u : Tree) → LeadsInside g t path c u → HasWiresOf w (keys_at g c) u

-- What the wires of a patch that grew as this tree are as long as it runs: each stands once among the feeds of its inlet, and at both of its
-- ports; those inside abstractions are as they grew; and the feeds of each canvas of the document are in order.
pub record HoldsWires (p : Patch) (t : Tree) : Type 0 where
  pub fed : FedOnce p.web
  pub meet : Meet p.web
  pub inside : IsWiredInside p.grove p.web t
  pub order : (path : List ℕ) (c : ℕ) → sub_reached p.grove (Some p.grove.root) path ≡ Some c → FeedsInOrder p c

-- Two canvases, of one patch and of another, have the same ports and the same wires, at each outlet and at each inlet in the same order, and
-- the same signal order.
pub record IsSameCanvas (p : Patch) (c : ℕ) (q : Patch) (d : ℕ) : Type 0 where
  pub wires : HaveSameWires p c q d
  pub feeds : HaveSameFeeds p c q d
  pub order : HaveSameOrder p c q d
