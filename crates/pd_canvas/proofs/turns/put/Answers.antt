use Rattle.std.proofs.Common.{map, ◌∙◌, ap, arith}
use Rattle.pd_canvas.specs.Pages.{with_elements}
use Rattle.pd_canvas.specs.Views.{entry_of, page_seen}
use Rattle.pd_canvas.specs.Wiring.{raised_wire}
use Rattle.pd_canvas.specs.Edits.{with_wires}
use Rattle.pd_canvas.specs.Turns.{put_in}
use Rattle.pd_canvas.proofs.TreeLemmas.{place_seen, insert_seen}
use Rattle.pd_canvas.proofs.turns.put.Goals as goal

pub insert-requires : goal.insert-requires
insert-requires c =
    omega (arith, place_seen c.canvas.inside c.args.canvas.now c.canvas.view_is c.args.number c.requires.place, c.canvas.inside.boxes.items.ok)

pub returns-clause-ok : goal.returns-clause-ok
returns-clause-ok c =
    ap (λ ws. with_wires ws (with_elements (map entry_of c.insert.new.self.items) (page_seen c.canvas.inside))) c.lift_box.ensures
    ∙ (ap (λ l. with_wires (map (raised_wire c.args.number) c.canvas.inside.wires) (with_elements l (page_seen c.canvas.inside)))
    (insert_seen c.canvas.inside c.insert.new.self.items c.args.number c.args.element c.in_ok-insert.ensures.items)
    ∙ ap (put_in c.args.number (entry_of c.args.element)) c.canvas.view_is)
