use Rattle.std.proofs.Common.{◌≡◌, ◌++◌, ◌-◌, ◌≤◌, ◌<◌, take, drop, length, false}
use Rattle.pd_atom.specs.Tokens.{or_else}
use Rattle.pd_atom.specs.Expansion.{run_text, filled, runs_of, first_missing}
use Rattle.pd_atom.proofs.expansion.fill.Given as goal

abbrev pub invariant-loop-i : goal.invariant-loop-i
invariant-loop-i l = record {
  short : length l.out.items ≤ 255;
  some : 0 < l.i → 0 < length l.out.items;
  within : l.i ≤ length l.name;
  text : take 255 (l.out.items ++ filled (run_text l.symbols l.zero l.args) false (drop l.i l.name)) ≡ take 255 (filled (run_text l.symbols l.zero l.args) false l.name);
  missing : or_else l.missing (first_missing l.zero l.args (runs_of (drop l.i l.name))) ≡ first_missing l.zero l.args (runs_of l.name);
}

abbrev pub decreases-loop-i : goal.decreases-loop-i
decreases-loop-i l = length l.name - l.i
