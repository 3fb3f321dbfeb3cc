use Rattle.std.proofs.Common.{◌≡◌}
use Rattle.std.specs.List.{flat_map}
use Rattle.pd_made.specs.Voices.{voices}
use Rattle.pd_made.specs.Scripts.{voice_records}
use Rattle.pd_made.proofs.script.make_script.Given as goal

abbrev pub invariant-loop-voice : goal.invariant-loop-voice
invariant-loop-voice l = l.script.items ≡ flat_map voice_records (voices l.voice)
