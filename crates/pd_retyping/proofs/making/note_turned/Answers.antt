use Rattle.pd_misfits.proofs.WalkLemmas.{fan_once}
use Rattle.pd_retyping.proofs.making.note_turned.Goals as goal

pub note_wires-requires-clause-order : goal.note_wires-requires-clause-order
note_wires-requires-clause-order c =
    c.requires.order (record { fans = c.laws.ensures.fans; feeds = c.laws.ensures.feeds }) (λ node outlet. fan_once c.args.web.now node outlet (c.laws.ensures.once node outlet))
