use Rattle.std.proofs.Common.{◌≡◌, ◌≤◌, ◌-◌, false}
use Rattle.pd_script.specs.Room.{IsWhole}
use Rattle.pd_stage.specs.Leads.{sinks}
use Rattle.pd_play.specs.Playing.{point_at, IsCounted, Moves}
use Rattle.pd_play.proofs.player.play_script.Given as goal

abbrev pub invariant-records : goal.invariant-records
invariant-records g l = record {
  running : l.session.engine.stopped ≡ false;
  counted : IsCounted l.session.number l.session.feed;
  whole : IsWhole l.session.room;
  moves : Moves l.fn.session.feed (point_at l.fn.session) l.session.feed (point_at l.session) (g.S.Source.left l.fn.script) (g.S.Source.left l.script)
      (sinks (g.L.Sink.taken l.fn.lines) (g.P.Sink.taken l.fn.pcm) 0 (g.H.Shelf.holds l.fn.shelf) (g.H.Shelf.faults l.fn.shelf))
      (sinks (g.L.Sink.taken l.lines) (g.P.Sink.taken l.pcm) 0 (g.H.Shelf.holds l.shelf) (g.H.Shelf.faults l.shelf));
  folder : g.H.Shelf.faults l.fn.shelf ≤ g.H.Shelf.faults l.shelf;
  script : g.S.Source.faults l.fn.script ≤ g.S.Source.faults l.script;
  lines : g.L.Sink.faults l.fn.lines ≤ g.L.Sink.faults l.lines;
  pcm : g.P.Sink.faults l.fn.pcm ≤ g.P.Sink.faults l.pcm;
}

abbrev pub decreases-records : goal.decreases-records
decreases-records g l = 1073741825 - l.session.number
