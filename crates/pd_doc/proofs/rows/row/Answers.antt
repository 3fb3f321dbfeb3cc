use Rattle.std.proofs.Common.{ap, map}
use Rattle.std.proofs.lemmas.Result.{err_from_is_err_and}
use Rattle.pd_canvas.specs.Views.{entry_of}
use Rattle.pd_doc.specs.States.{with_boxes}
use Rattle.pd_doc.specs.Views.{level_of}
use Rattle.pd_doc.proofs.RowLemmas.{row_refused, row_done}
use Rattle.pd_doc.proofs.rows.row.Goals as goal

pub returns-in_err-element-clause-exact : goal.returns-in_err-element-clause-exact
returns-in_err-element-clause-exact c =
    let p = err_from_is_err_and c.from_residual.result c.from_residual.ensures.1 in
    let r = c.args.reader.now in
    rw (p.1, p.2) (row_refused r.canvases.items c.pop.new.self.items c.in-Some.canvas c.pop-2.new.self.items c.in-Some-pop.element r.elements r.wires
    c.args.number c.args.symbols.now _ _ c.in-Some.ensures.items c.in-Some-pop.ensures.items c.in_err-element.ensures.exact)

pub returns-clause-exact : goal.returns-clause-exact
returns-clause-exact c =
    let r = c.args.reader.now in
    row_done r.canvases.items c.pop.new.self.items c.in-Some.canvas c.pop-2.new.self.items c.in-Some-pop.element c.in_ok-element.element c.push-2.new.self.items _
    r.elements r.wires c.args.number c.args.symbols.now c.row_for.new.symbols _ c.in-Some.ensures.items c.in-Some-pop.ensures.items c.in_ok-push-2.ensures.items
    (ap (λ x. with_boxes (map entry_of x) (level_of c.in-Some.canvas)) c.in_ok-push.ensures.items) c.in_ok-element.ensures.exact
