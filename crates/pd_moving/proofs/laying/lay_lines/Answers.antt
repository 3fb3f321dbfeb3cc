use Rattle.std.proofs.Common.{List, [], ◌∷◌, get_or, take, sym, subst, arith}
use Rattle.std.proofs.lemmas.List.{take_more, length-take-le}
use Rattle.std.proofs.lemmas.Option.{slice_get-get_or}
use Rattle.pd_web.specs.declared.lines.Line.{Line}
use Rattle.pd_web.specs.Lines.{IsRoute}
use Rattle.pd_moving.specs.Outlets.{Lays, line_at}
use Rattle.pd_moving.proofs.LayLemmas.{none_laid, laid_more, still_route, next_fits}
use Rattle.pd_moving.proofs.laying.lay_lines.Goals as goal

pub loop-line-init : goal.loop-line-init
loop-line-init c = none_laid c.args.web.now c.args.labels.now c.args.node c.args.outlet c.requires.meet

pub lay_line-requires-clause-route : goal.lay_line-requires-clause-route
lay_line-requires-clause-route c =
    let none : Line = record { source = 0; outlet = 0; sink = 0; inlet = 0 } in
    let i = c.loop-line.line-index in
    let l = get_or c.args.lines.now i none in
    let P : Line → Type 0 = λ x. IsRoute c.loop-line.web.sockets.items x in
    subst P (sym c.line_at.ensures)
    (still_route c.args.web.now c.loop-line.web (line_at c.args.node c.args.outlet l) c.loop-line.invariant.kept (c.requires.routes i l (slice_get-get_or c.args.lines.now i none c.loop-line-test.true)))

pub lay_line-requires-clause-room : goal.lay_line-requires-clause-room
lay_line-requires-clause-room c =
    let i = c.loop-line.line-index in
    let l = c.loop-line-test.true in
    next_fits c.args.web.now c.loop-line.web c.args.labels.now c.args.node c.args.outlet i c.args.lines.now c.loop-line.invariant (length-take-le i c.args.lines.now (omega (arith, l))) l c.requires.room

pub lay_line-requires-clause-meet : goal.lay_line-requires-clause-meet
lay_line-requires-clause-meet c = c.loop-line.invariant.meet

pub loop-line-preserved : goal.loop-line-preserved
loop-line-preserved c =
    let none : Line = record { source = 0; outlet = 0; sink = 0; inlet = 0 } in
    let i = c.loop-line.line-index in
    let lines = c.args.lines.now in
    let l = get_or lines i none in
    let P : Line → Type 0 = λ x. Lays c.loop-line.web c.lay_line.new.web c.args.labels.now x.source x.outlet (x ∷ []) in
    let Q : List Line → Type 0 = λ ls. Lays c.args.web.now c.lay_line.new.web c.args.labels.now c.args.node c.args.outlet ls in
    subst Q (sym (take_more lines i none c.loop-line-test.true))
    (laid_more c.args.web.now c.loop-line.web c.lay_line.new.web c.args.labels.now c.args.node c.args.outlet (take i lines) l c.loop-line.invariant (subst P c.line_at.ensures c.lay_line.ensures))
