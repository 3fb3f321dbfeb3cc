use Rattle.std.proofs.Common.{◌≡◌, length}
use Rattle.pd_atom.specs.Names.{Extends}
use Rattle.std.specs.List.{All, slice_split}
use Rattle.pd_atom.specs.Atoms.{IsOf}
use Rattle.pd_message.specs.Texts.{named_runs, is_semi}
use Rattle.pd_message.specs.Room.{run_of, HasRoom}
use Rattle.pd_message.proofs.segments.run_all_named.Given as goal

abbrev pub invariant-loop-place : goal.invariant-loop-place
invariant-loop-place l = record {
  run : named_runs l.args (run_of l.symbols l.out) (slice_split is_semi l.rest) ≡ named_runs l.args (run_of l.fn.symbols l.fn.out) (slice_split is_semi l.segments);
  extends : Extends l.fn.symbols l.symbols;
  of_rest : All (IsOf l.symbols) l.rest;
  of_args : All (IsOf l.symbols) l.args;
  room : HasRoom l.out (length l.rest);
}

abbrev pub decreases-loop-place : goal.decreases-loop-place
decreases-loop-place l = length l.rest
