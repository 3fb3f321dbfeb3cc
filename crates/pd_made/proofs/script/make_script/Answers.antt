use Rattle.std.proofs.Common.{◌+◌, [], ◌++◌, ap, ◌∙◌}
use Rattle.pd_made.specs.Scripts.{voice_records}
use Rattle.pd_made.proofs.VoiceLemmas.{one_more}
use Rattle.pd_made.proofs.script.make_script.Goals as goal

pub loop-voice-preserved : goal.loop-voice-preserved
loop-voice-preserved c =
    c.in_ok-push_records.ensures
    ∙ ap (λ v. c.loop-voice.script.items ++ voice_records (v + 1)) c.from.ensures
    ∙ ap (λ l. l ++ voice_records (c.loop-voice.voice + 1)) c.loop-voice.invariant
    ∙ one_more voice_records [] c.loop-voice.voice
