-- The wires of a patch, told of its tree.
use Rattle.std.specs.Prelude.{◌≡◌, ℕ, List, map, slice_get, Some}
use Rattle.pd_canvas.specs.Wiring.{fan_out}
use Rattle.pd_tree.specs.Trees.{Tree}
use Rattle.pd_tree.specs.Ports.{sockets_in, trimmed_sheet}
use Rattle.pd_grove.specs.declared.grove.Grove.{Grove}
use Rattle.pd_grove.specs.Telling.{reached}
use Rattle.pd_grove.specs.Places.{canvas_along}
use Rattle.pd_web.specs.declared.web.Web.{Web}
use Rattle.pd_web.specs.Canvases.{keys_at, sink_place, source_place, fan_into}
use Rattle.pd_web.specs.Hops.{boxes_told, fan_hops, feed_hops, places_of}

-- a path of box numbers leads to the canvas of a key, which is this one of the tree
pub record LeadsHere (g : Grove) (t : Tree) (path : List ℕ) (c : ℕ) (u : Tree) : Type 0 where
  pub key : reached g (Some g.root) path ≡ Some c
  pub canvas : canvas_along path t ≡ Some u

-- Where a path leads to a canvas, its boxes have the ports that they have in the tree. The wires from an outlet of a box of it lead in
-- order where those wires of the canvas lead that fit, and the wires to an inlet come from where those come.
pub record IsWired (g : Grove) (w : Web) (t : Tree) : Type 0 where
  pub ports : (path : List ℕ) (c : ℕ) (u : Tree) → LeadsHere g t path c u → boxes_told w (keys_at g c) ≡ sockets_in u.boxes
  pub fans : (path : List ℕ) (c : ℕ) (u : Tree) → LeadsHere g t path c u → (i outlet k : ℕ) → slice_get (keys_at g c) i ≡ Some k
      → places_of (fan_hops w k outlet) ≡ map (sink_place (keys_at g c)) (fan_out i outlet (trimmed_sheet u.boxes u.sheet).wires)
  pub feeds : (path : List ℕ) (c : ℕ) (u : Tree) → LeadsHere g t path c u → (i inlet k : ℕ) → slice_get (keys_at g c) i ≡ Some k
      → places_of (feed_hops w k inlet) ≡ map (source_place (keys_at g c)) (fan_into i inlet (trimmed_sheet u.boxes u.sheet).wires)
