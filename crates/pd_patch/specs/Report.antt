-- What the growth of a patch has to tell.
use Rattle.std.specs.Prelude.{ℕ, pos, Bool, true, false, not, List, ◌∷◌, ◌++◌, map, filter, Option, Some, None, is_some}
use Rattle.std.specs.List.{flat_map, filter_map}
use Rattle.std.specs.Ordering.{int_eq}
use Rattle.slab.specs.Slab.{get}
use Rattle.pd_canvas.specs.declared.wires.Wire.{Wire}
use Rattle.pd_object.specs.declared.kinds.Kind.{Kind}
use Rattle.pd_object.specs.declared.kinds.Kind.TheVariants as kind
use Rattle.pd_object.specs.declared.kinds.Glue.{Glue}
use Rattle.pd_object.specs.declared.kinds.Glue.TheVariants as glue
use Rattle.pd_object.specs.declared.kinds.Panel.{Panel}
use Rattle.pd_object.specs.declared.kinds.Panel.TheVariants as panel
use Rattle.pd_tree.specs.Ports.{fits}
use Rattle.pd_grove.specs.declared.nodes.Node.{Node}
use Rattle.pd_grove.specs.declared.grove.Grove.{Grove}
use Rattle.pd_grove.specs.Telling.{inner_in}
use Rattle.pd_grove.specs.TextOrder.{keys_in_order}
use Rattle.pd_web.specs.Hops.{boxes_told}
use Rattle.pd_web.specs.Lines.{wires_in}
use Rattle.pd_web.specs.Canvases.{keys_at}
use Rattle.pd_web.specs.declared.web.Web.{Web}
use Rattle.pd_order.specs.Listing.{Listing}
use Rattle.pd_patch.specs.declared.report.Remark.{Remark}
use Rattle.pd_patch.specs.declared.report.Remark.TheVariants.{NotMade, Unfit, Loop}
use Rattle.pd_patch.specs.Telling.{order_in, is_looped}

-- the canvases that boxes hold, in the order of the boxes
abbrev pub canvases_inside : Grove → List ℕ → List ℕ
canvases_inside g boxes = filter_map (λ k. inner_in (get g.nodes k)) boxes

-- the root canvas, and those that boxes hold
abbrev pub canvases_by : Grove → List ℕ → List ℕ
canvases_by g boxes = g.root ∷ canvases_inside g boxes

abbrev pub has_fault : Option Node → Bool
has_fault None = false
has_fault (Some n) = is_some n.fault

-- the boxes that could not be made
abbrev pub unmade_among : Grove → List ℕ → List Remark
unmade_among g boxes = map (λ k. NotMade k) (filter (λ k. has_fault (get g.nodes k)) boxes)

-- those of some wires of a canvas that don't fit
abbrev pub unfit_wires : Web → Grove → ℕ → List Wire → List Remark
unfit_wires w g c wires = map (λ x. Unfit c x) (filter (λ x. not (fits (boxes_told w (keys_at g c)) x)) wires)

-- the wires of a canvas that don't fit
abbrev pub unfit_in : Web → Grove → ℕ → List Remark
unfit_in w g c = unfit_wires w g c (wires_in (get g.boards c))

abbrev pub unfit_among : Web → Grove → List ℕ → List Remark
unfit_among w g canvases = flat_map (unfit_in w g) canvases

-- the canvases in which boxes feed one another in a loop
abbrev pub loops_among : List (Option Listing) → List ℕ → List Remark
loops_among orders canvases = map (λ c. Loop c) (filter (λ c. is_looped (order_in orders c)) canvases)

-- a `bng` or `tgl` whose init isn't 0
abbrev pub is_initial : Panel → Bool
is_initial (panel.Bng b) = not (int_eq b.init (pos 0))
is_initial (panel.Tgl t) = not (int_eq t.init (pos 0))

abbrev pub is_loadbang : Glue → Bool
is_loadbang glue.Loadbang = true
is_loadbang _ = false

-- a box that sends when it is loaded
abbrev pub is_load : Kind → Bool
is_load (kind.Glue g) = is_loadbang g
is_load (kind.Panel p) = is_initial p
is_load _ = false

abbrev pub loads : Option Node → Bool
loads None = false
loads (Some n) = is_load n.kind

abbrev pub loads_among : Grove → List ℕ → List ℕ
loads_among g boxes = filter (λ k. loads (get g.nodes k)) boxes

-- The lines to print: the boxes that could not be made, the wires that don't fit, and the loops, each in text order.
abbrev pub notices_in : Grove → Web → List (Option Listing) → List Remark
notices_in g w orders =
    unmade_among g (keys_in_order g) ++ unfit_among w g (canvases_by g (keys_in_order g)) ++ loops_among orders (canvases_by g (keys_in_order g))
