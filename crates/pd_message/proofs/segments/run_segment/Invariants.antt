use Rattle.std.proofs.Common.{◌≡◌, ◌≤◌, ◌+◌, ◌*◌, length}
use Rattle.pd_atom.specs.Names.{Extends}
use Rattle.std.specs.List.{All}
use Rattle.pd_atom.specs.Atoms.{IsOf}
use Rattle.pd_message.specs.Texts.{segment_run}
use Rattle.pd_message.specs.Room.{run_of}
use Rattle.pd_message.proofs.segments.run_segment.Given as goal

abbrev pub invariant-loop-place : goal.invariant-loop-place
invariant-loop-place l = record {
  run : segment_run l.args l.to (run_of l.symbols l.out) l.rest ≡ segment_run l.args l.to (run_of l.fn.symbols l.fn.out) l.segment;
  extends : Extends l.fn.symbols l.symbols;
  of_rest : All (IsOf l.symbols) l.rest;
  of_args : All (IsOf l.symbols) l.args;
  short : length l.rest ≤ length l.segment;
  rows : length l.out.rows + length l.rest ≤ length l.fn.out.rows + length l.segment;
  atoms : length l.out.atoms + 2 * length l.rest ≤ length l.fn.out.atoms + 2 * length l.segment;
  notices : length l.out.notices + 2 * length l.rest ≤ length l.fn.out.notices + 2 * length l.segment;
}

abbrev pub decreases-loop-place : goal.decreases-loop-place
decreases-loop-place l = length l.rest
