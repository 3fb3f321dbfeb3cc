use Rattle.std.proofs.Common.{◌≡◌, drop}
use Rattle.pd_feed.specs.Scan.{scan_of, later}
use Rattle.pd_feed.proofs.scan.find_semicolon.Given as goal

abbrev pub invariant-loop-i : goal.invariant-loop-i
invariant-loop-i l = scan_of l.fn.escaped l.bytes ≡ later l.i (scan_of l.escaped (drop l.i l.bytes))
