use Rattle.std.proofs.Common.{map, ◌∙◌, ap, arith}
use Rattle.pd_canvas.specs.Pages.{with_elements}
use Rattle.pd_canvas.specs.Views.{entry_of, page_seen}
use Rattle.pd_canvas.specs.Wiring.{without_box}
use Rattle.pd_canvas.specs.Edits.{without, with_wires}
use Rattle.pd_canvas.proofs.TreeLemmas.{within_seen, remove_seen}
use Rattle.pd_canvas.proofs.changes.delete.Goals as goal

pub remove-requires : goal.remove-requires
remove-requires c =
    omega (arith, within_seen c.canvas.inside c.args.canvas.now c.canvas.view_is c.args.number c.requires, c.canvas.inside.boxes.items.ok)

pub returns : goal.returns
returns c =
    ap (λ ws. with_wires ws (with_elements (map entry_of c.remove.new.self.items) (page_seen c.canvas.inside))) c.drop_box.ensures
    ∙ (ap (λ l. with_wires (without_box c.args.number c.canvas.inside.wires) (with_elements l (page_seen c.canvas.inside)))
    (remove_seen c.canvas.inside c.remove.new.self.items c.args.number c.remove.ensures.items)
    ∙ ap (without c.args.number) c.canvas.view_is)
