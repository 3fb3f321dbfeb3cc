-- The links of a patch, which are its signal wires, and wires that stay in their canvases.
use Rattle.std.specs.Prelude.{◌≡◌, ℕ, List, map}
use Rattle.std.specs.List.{AllByRecursion}
use Rattle.pd_order.specs.Graph.{tally}
use Rattle.pd_links.specs.declared.links.Links.{Links}
use Rattle.pd_links.specs.Linked.{feeders_of, followers_of}
use Rattle.pd_grove.specs.declared.grove.Grove.{Grove}
use Rattle.pd_web.specs.declared.web.Web.{Web}
use Rattle.pd_web.specs.Canvases.{keys_at}
use Rattle.pd_web.specs.Hops.{fan_hops}
use Rattle.pd_patch.specs.Listing.{IsThere}
use Rattle.pd_patch.specs.Orders.{box_wires}

-- the boxes to which signal wires lead from a box, each as often as one does
abbrev pub signal_sinks : Web → ℕ → List ℕ
signal_sinks w k = map (λ v. v.sink) (box_wires w k)

-- The links from a box lead where its signal wires lead, and the links to a box come from where signal wires come to it, as often as there
-- are wires.
pub record HasLinks (w : Web) (l : Links) : Type 0 where
  pub followers : (k j : ℕ) → tally j (followers_of l k) ≡ tally j (signal_sinks w k)
  pub feeders : (k j : ℕ) → tally k (feeders_of l j) ≡ tally j (signal_sinks w k)

-- both boxes stand in one canvas
pub record ShareCanvas (g : Grove) (k j : ℕ) : Type 0 where
  pub canvas : ℕ
  pub one : IsThere (keys_at g canvas) k
  pub other : IsThere (keys_at g canvas) j

-- each wire leads to a box of the canvas of the box from which it comes
abbrev pub StayInside : Grove → Web → Type 0
StayInside g w = (k outlet : ℕ) → AllByRecursion (λ h. ShareCanvas g k h.node) (fan_hops w k outlet)
