use Rattle.std.proofs.Common.{◌*◌, ◌∙◌, ap, sym, map}
use Rattle.pd_tone.specs.Cosine.{cosine}
use Rattle.pd_tone.specs.Tones.{phases}
use Rattle.pd_tone.proofs.kernels.osc_on_circle.Goals as goal

pub returns-in-Some-clause-samples : goal.returns-in-Some-clause-samples
returns-in-Some-clause-samples c =
    c.osc_steady.ensures.samples ∙ ap (λ xs. map (cosine (c.args.part * 2048)) (phases (c.args.part * 2048) c.args.phase.now xs)) (sym c.in-Some.ensures)
