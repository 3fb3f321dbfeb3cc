-- Where an engine stands.
use Rattle.std.specs.Prelude.{List}
use Rattle.pd_hearing.specs.Worlds.{net_of, states_of}
use Rattle.pd_stage.specs.Choices.{Choice, base_of}
use Rattle.pd_stage.specs.Stages.{Stage}
use Rattle.pd_engine.specs.declared.engine.Engine.{Engine}

-- what an engine stands at, where the edits to come lead to this
abbrev pub stage_at : Engine → List Choice → Stage
stage_at e ahead = record {
  file = e.file.items;
  net = net_of e.patch;
  states = states_of e.patch;
  clocks = e.patch.timers.clocks.clocks;
  names = e.symbols;
  base = base_of e.library e.counts;
  time = e.time;
  block_end = e.block_end;
  fired = e.fired;
  tally = e.tally;
  ahead = ahead;
}
