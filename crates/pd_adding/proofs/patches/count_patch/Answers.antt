use Rattle.std.proofs.Common.{◌≡◌, Some, map, ap, ◌∙◌}
use Rattle.slab.specs.Slab.{get}
use Rattle.pd_tree.specs.Trees.{Cell, zeros_of}
use Rattle.pd_grove.specs.TextOrder.{cells_in_order, cell_under}
use Rattle.pd_adding.proofs.PatchLemmas.{counted_so, within_so}
use Rattle.pd_adding.proofs.patches.count_patch.Goals as goal

pub returns-clause-counted : goal.returns-clause-counted
returns-clause-counted c = λ t g few.
    let p = c.args.patch.now in
    let are : map (cell_under (get p.grove.nodes)) c.deref.result.now ≡ map (λ (x : Cell). Some x) (cells_in_order t.boxes) =
    ap (map (cell_under (get p.grove.nodes))) c.deref.ensures.value ∙ c.in_ok-boxes.ensures.cells t.sheet t.boxes g few.shallow in
    let told : c.as_slice.result.now ≡ zeros_of t = c.as_slice.ensures ∙ c.in_ok-zeros.ensures t.sheet t.boxes g few.shallow in
    let e = c.counts_by.ensures in
    counted_so c.counts_by.result p t c.deref.result.now c.as_slice.result.now are told few
    (record { boxes = e.boxes; wires = e.wires; sound = e.sound; next = e.zeros }) g

pub returns-clause-within : goal.returns-clause-within
returns-clause-within c = λ t g few wires.
    let p = c.args.patch.now in
    let are : map (cell_under (get p.grove.nodes)) c.deref.result.now ≡ map (λ (x : Cell). Some x) (cells_in_order t.boxes) =
    ap (map (cell_under (get p.grove.nodes))) c.deref.ensures.value ∙ c.in_ok-boxes.ensures.cells t.sheet t.boxes g few.shallow in
    let told : c.as_slice.result.now ≡ zeros_of t = c.as_slice.ensures ∙ c.in_ok-zeros.ensures t.sheet t.boxes g few.shallow in
    let e = c.counts_by.ensures in
    within_so c.counts_by.result p t c.deref.result.now c.as_slice.result.now are told few
    (record { boxes = e.boxes; wires = e.wires; sound = e.sound; next = e.zeros }) wires
