use Rattle.std.proofs.Common.{◌≡◌, ◌<◌, drop, length}
use Rattle.pd_signal.specs.Rings.{written}
use Rattle.pd_signal.proofs.delays.write_from.Given as goal

abbrev pub invariant-loop-i : goal.invariant-loop-i
invariant-loop-i l = record {
  ring : written l.ring l.at (drop l.i l.x) ≡ written l.fn.ring l.fn.from l.x;
  len : length l.ring ≡ length l.fn.ring;
  within : l.at < length l.ring;
}
