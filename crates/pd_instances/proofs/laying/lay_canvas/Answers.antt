use Rattle.std.proofs.Common.{◌*◌, List, length, sym, subst}
use Rattle.pd_canvas.specs.declared.wires.Wire.{Wire}
use Rattle.pd_web.specs.Canvases.{keys_at}
use Rattle.pd_web.specs.Changes.{HasRoom}
use Rattle.pd_web.specs.Lines.{boxes_in, lines_by}
use Rattle.pd_instances.specs.Lay.{LaysLines, TakesWires}
use Rattle.pd_instances.proofs.laying.lay_canvas.Goals as goal

pub lay_all-requires-clause-room : goal.lay_all-requires-clause-room
lay_all-requires-clause-room c = subst (λ (ws : List Wire). HasRoom c.args.web.now 0 (2 * length ws) (length ws)) (sym c.wires_of-wires.ensures) c.requires.room

pub lay_all-requires-clause-takes : goal.lay_all-requires-clause-takes
lay_all-requires-clause-takes c = subst (λ (ws : List Wire). TakesWires c.args.links.now (keys_at c.args.grove.now c.args.canvas) ws) (sym c.wires_of-wires.ensures) c.requires.takes

pub returns-clause-lays : goal.returns-clause-lays
returns-clause-lays c =
    let g = c.args.grove.now in
    subst (λ (ws : List Wire). LaysLines c.args.web.now c.lay_all.new.web (lines_by (boxes_in g c.args.canvas) (keys_at g c.args.canvas) ws)) c.wires_of-wires.ensures c.lay_all.ensures.lays
