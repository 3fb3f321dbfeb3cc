use Rattle.std.proofs.Common.{sym, ap, ◌∙◌, subst}
use Rattle.std.proofs.lemmas.List.{take_all}
use Rattle.pd_web.specs.Canvases.{keys_at}
use Rattle.pd_web.specs.Lines.{boxes_in, lines_by}
use Rattle.pd_instances.specs.Lay.{LaysLines}
use Rattle.pd_instances.proofs.WireLemmas.{row_same}
use Rattle.pd_instances.proofs.StepLemmas.{first_takes, lays_next, lays_start, rest_takes, room_left, rows_kept_on}
use Rattle.pd_instances.proofs.laying.lay_all.Goals as goal

pub lay_one-requires-clause-made : goal.lay_one-requires-clause-made
lay_one-requires-clause-made c = λ k. c.loop-wire.invariant.lays.kept.made k ∙ c.requires.made k

pub lay_one-requires-clause-room : goal.lay_one-requires-clause-room
lay_one-requires-clause-room c =
    let g = c.args.grove.now in
    room_left c.args.wires.now c.loop-wire.wire-index c.loop-wire-test.true (boxes_in g c.args.canvas) (keys_at g c.args.canvas) c.args.web.now c.loop-wire.web c.loop-wire.invariant.lays c.requires.room

pub lay_one-requires-clause-takes : goal.lay_one-requires-clause-takes
lay_one-requires-clause-takes c =
    first_takes c.args.wires.now c.loop-wire.wire-index c.loop-wire-test.true c.loop-wire.links (keys_at c.args.grove.now c.args.canvas) c.loop-wire.invariant.takes

pub loop-wire-init : goal.loop-wire-init
loop-wire-init c = record {
  lays = lays_start (boxes_in c.args.grove.now c.args.canvas) (keys_at c.args.grove.now c.args.canvas) c.args.web.now;
  wired = c.requires.wired;
  takes = c.requires.takes;
  others = λ k out. row_same c.args.links.now k;
}

pub loop-wire-preserved : goal.loop-wire-preserved
loop-wire-preserved c =
    let g = c.args.grove.now in
    let keys = keys_at g c.args.canvas in
    let inv = c.loop-wire.invariant in
    let E = c.lay_one.ensures in
    record {
      lays = lays_next c.args.wires.now c.loop-wire.wire-index c.loop-wire-test.true (boxes_in g c.args.canvas) keys c.args.web.now c.loop-wire.web c.lay_one.new.web inv.lays E.lays;
      wired = E.wired;
      takes = rest_takes c.args.wires.now c.loop-wire.wire-index c.loop-wire-test.true c.loop-wire.links c.lay_one.new.links keys E.takes inv.takes;
      others = rows_kept_on c.args.links.now c.loop-wire.links c.lay_one.new.links keys inv.others E.others;
    }

pub returns-clause-lays : goal.returns-clause-lays
returns-clause-lays c =
    let g = c.args.grove.now in
    subst (λ ws. LaysLines c.args.web.now c.loop-wire.web (lines_by (boxes_in g c.args.canvas) (keys_at g c.args.canvas) ws))
    (take_all c.loop-wire.wire-index c.args.wires.now c.loop-wire-test.false) c.loop-wire.invariant.lays
