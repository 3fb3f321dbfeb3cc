use Rattle.std.proofs.Common.{rules, arith, ◌<◌, ◌+◌, refl}
use Rattle.pd_patch.specs.Sounds.{sound_in}
use Rattle.pd_adding.proofs.CountLemmas.{totals, sound_refused}
use Rattle.pd_adding.proofs.counting.counts_with.Goals as goal

pub returns-in_default-clause-refused : goal.returns-in_default-clause-refused
returns-in_default-clause-refused c = λ t s x canvas k.
    let w = c.in_ok-wires.ensures.total t s in
    let much : 16777216 < c.args.counts.sound + sound_in c.args.rate c.args.rows.now = search rules in
    sound_refused c.args.rate c.args.counts c.args.rows.now t c.in_ok-wires.wires s w.0 w.1 much canvas k

pub returns-clause-totals : goal.returns-clause-totals
returns-clause-totals c = λ t s zeros took.
    let w = c.in_ok-wires.ensures.total t s in
    let v = c.in-Some.ensures.total in
    totals c.args.rate c.args.counts c.args.rows.now t c.in_ok-wires.wires c.in-Some.sound c.args.left.next_zero c.args.left.room c.requires.within s w.0 w.1 v.0 v.1
    zeros took (record { boxes = c.saturating_sub.result; wires = c.in_ok-wires.wires; sound = c.in-Some.sound; next_zero = c.min.result })
    (omega (arith, c.saturating_sub.ensures)) refl refl (omega (arith, c.min.ensures))
