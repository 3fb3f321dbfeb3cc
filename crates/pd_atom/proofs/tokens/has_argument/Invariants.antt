use Rattle.std.proofs.Common.{◌≡◌, drop}
use Rattle.pd_atom.specs.Tokens.{has_argument}
use Rattle.pd_atom.proofs.tokens.has_argument.Given as goal

abbrev pub invariant-loop-i : goal.invariant-loop-i
invariant-loop-i l = has_argument l.bytes ≡ has_argument (drop l.i l.bytes)
