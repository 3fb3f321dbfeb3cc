use Rattle.std.proofs.Common.{◌≡◌, ◌+◌, ◌*◌, map, take}
use Rattle.slab.specs.Slab.{get}
use Rattle.pd_canvas.specs.Views.{entries_of}
use Rattle.pd_present.specs.Presents.{entry_at, page_within}
use Rattle.pd_present.proofs.canvases.+present.Given as goal

abbrev pub decreases-canvas_of : goal.decreases-canvas_of
decreases-canvas_of l = 6 * l.canvases

abbrev pub decreases-canvas_on : goal.decreases-canvas_on
decreases-canvas_on l = 6 * l.canvases + 5

abbrev pub decreases-elements_of : goal.decreases-elements_of
decreases-elements_of l = 6 * l.canvases + 4

abbrev pub decreases-element_of : goal.decreases-element_of
decreases-element_of l = 6 * l.canvases + 3

abbrev pub decreases-element_in : goal.decreases-element_in
decreases-element_in l = 6 * l.canvases + 2

abbrev pub decreases-inner_of : goal.decreases-inner_of
decreases-inner_of l = 6 * l.canvases + 1

abbrev pub invariant-elements_of-loop-key : goal.invariant-elements_of-loop-key
invariant-elements_of-loop-key l =
    entries_of l.elements.items ≡ map (λ k. entry_at (page_within l.web l.numbers (get l.grove.nodes) (get l.grove.boards) l.canvases) (get l.grove.nodes k)) (take l.key-index l.keys)
