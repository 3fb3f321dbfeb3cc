use Rattle.std.proofs.Common.{arith, ap, sym, subst}
use Rattle.pd_canvas.specs.Pages.{page_weight}
use Rattle.pd_doc.specs.Atoms.{BoxesOf}
use Rattle.pd_doc.proofs.LineLemmas.{sizes_fall}
use Rattle.pd_doc.proofs.writing.+write.Goals as goal

pub push_canvas-push_boxes-requires : goal.push_canvas-push_boxes-requires
push_canvas-push_boxes-requires t c =
    let of_table = subst (λ p. BoxesOf c.args.symbols.now p.boxes) (sym c.canvas.view_is) c.requires.1 in (
      rw (c.as_slice-boxes.ensures) (omega (arith, c.decreases, sizes_fall c.canvas.inside.boxes.items.items, ap page_weight c.canvas.view_is)),
      rw (c.as_slice-boxes.ensures) of_table,
    )
