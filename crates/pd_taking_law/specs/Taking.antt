-- A running patch with one box less.
use Rattle.std.specs.Prelude.{◌≡◌, ℕ, ◌+◌, Bool, not, ◌==◌, List, filter, take, drop, slice_get, Some, IsSome}
use Rattle.slab.specs.Slab.{get}
use Rattle.pd_canvas.specs.Pages.{Page}
use Rattle.pd_canvas.specs.Edits.{with_wires}
use Rattle.pd_canvas.specs.Wiring.{spares}
use Rattle.pd_grove.specs.declared.nodes.Node.{Node}
use Rattle.pd_grove.specs.declared.grove.Grove.{Grove}
use Rattle.pd_grove.specs.Forest.{IsForest}
use Rattle.pd_grove.specs.Grafts.{TakesBox}
use Rattle.pd_grove.specs.OwnPaths.{sub_reached}
use Rattle.pd_web.specs.declared.web.Hop.{Hop}
use Rattle.pd_web.specs.declared.web.Web.{Web}
use Rattle.pd_web.specs.Canvases.{keys_at}
use Rattle.pd_web.specs.Hops.{fan_hops}
use Rattle.pd_reload_law.specs.Wires.{AreNumbered, StayAmong}

-- From the canvas to which a path leads through subpatches the box of a number is gone, with all that lay in it; all else stays.
pub record TakesBoxAt (g h : Grove) (path : List ℕ) (canvas key number : ℕ) : Type 0 where
  pub forest : IsForest (get g.nodes) (get g.boards) g.root
  pub leads : sub_reached g (Some g.root) path ≡ Some canvas
  pub is : slice_get (keys_at g canvas) number ≡ Some key
  pub node : Node
  pub takes : TakesBox (get g.nodes) (get h.nodes) (get g.boards) (get h.boards) canvas key node (take number (keys_at g canvas)) (drop (number + 1) (keys_at g canvas))
  pub root : h.root ≡ g.root

-- the wire leads to another box than this one
abbrev pub leads_past : ℕ → Hop → Bool
leads_past key x = not (x.node == key)

-- The wires of the boxes that stay are as they were, less those to the box that went. Under the key of each box stands its number.
pub record CutsBox (g h : Grove) (w w' : Web) (numbers numbers' : List ℕ) (key : ℕ) : Type 0 where
  pub inside : (c : ℕ) → StayAmong w (keys_at g c)
  pub fans : (k outlet : ℕ) → IsSome (get h.nodes k) → fan_hops w' k outlet ≡ filter (leads_past key) (fan_hops w k outlet)
  pub numbered : (c : ℕ) → AreNumbered numbers (keys_at g c)
  pub renumbered : (c : ℕ) → AreNumbered numbers' (keys_at h c)

-- a page less the wires at box n
abbrev pub cut_off : ℕ → Page → Page
cut_off n p = with_wires (filter (spares n) p.wires) p
