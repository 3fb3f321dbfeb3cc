use Rattle.std.proofs.Common.{arith, ap}
use Rattle.pd_canvas.specs.Pages.{page_weight}
use Rattle.pd_save.proofs.SizeLemmas.{sizes_fall}
use Rattle.pd_save.proofs.pages.+is_of.Goals as goal

pub canvas_is_of-boxes_are_of-requires : goal.canvas_is_of-boxes_are_of-requires
canvas_is_of-boxes_are_of-requires t c =
    (rw (c.as_slice-boxes.ensures) (omega (arith, c.decreases, sizes_fall c.canvas.inside.boxes.items.items, ap page_weight c.canvas.view_is)), tt)
