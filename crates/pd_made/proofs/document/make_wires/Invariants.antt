use Rattle.std.proofs.Common.{◌≡◌}
use Rattle.pd_made.specs.Documents.{made_wires}
use Rattle.pd_made.proofs.document.make_wires.Given as goal

abbrev pub invariant-loop-voice : goal.invariant-loop-voice
invariant-loop-voice l = l.wires.items ≡ made_wires l.voice
