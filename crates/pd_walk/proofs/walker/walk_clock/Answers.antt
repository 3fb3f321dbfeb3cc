use Rattle.std.proofs.Common.{subst}
use Rattle.pd_io.specs.Stream.{TookPart}
use Rattle.pd_hearing.proofs.ResultLemmas.{on_ok_map, on_err_map}
use Rattle.pd_hearing.proofs.WorldLemmas.{kept-same}
use Rattle.pd_walk.proofs.WayLemmas.{told-same}
use Rattle.pd_walk.specs.Ways.{IsDone}
use Rattle.pd_hearing.specs.Worlds.{kept_of, Kept}
use Rattle.pd_turns.specs.Turns.{World}
use Rattle.pd_walk.proofs.walker.walk_clock.Goals as goal

pub returns-clause-ok : goal.returns-clause-ok
returns-clause-ok g c = λ before said is_said.
    on_ok_map c.walk_box.result
    (subst (λ (w : World Kept). IsDone (kept_of c.walk_box.new.patch c.walk_box.new.symbols c.walk_box.new.queue) c.walk_box.new.budget before (g.L.Sink.taken c.walk_box.new.lines) c.walk_box.new.held.items w)
    (told-same _ _ c.args.now c.args.owner _ _ c.args.budget.now said _ _ c.fire_at.ensures.net
    (kept-same c.args.patch.now c.fire_at.new.patch c.args.symbols.now c.args.queue.now c.fire_at.ensures.states c.fire_at.ensures.clocks) c.fire_at.ensures.said))
    (c.walk_box.ensures.ok before said is_said)

pub returns-clause-err : goal.returns-clause-err
returns-clause-err g c = λ before said is_said.
    on_err_map c.walk_box.result
    (subst (λ (w : World Kept). TookPart before (g.L.Sink.taken c.walk_box.new.lines) w.said)
    (told-same _ _ c.args.now c.args.owner _ _ c.args.budget.now said _ _ c.fire_at.ensures.net
    (kept-same c.args.patch.now c.fire_at.new.patch c.args.symbols.now c.args.queue.now c.fire_at.ensures.states c.fire_at.ensures.clocks) c.fire_at.ensures.said))
    (c.walk_box.ensures.err before said is_said)
