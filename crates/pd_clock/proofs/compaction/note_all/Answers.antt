use Rattle.std.proofs.Common.{arith, get_or, false}
use Rattle.pd_clock.specs.declared.slots.Slot.{Slot}
use Rattle.pd_clock.specs.Index.{place_of}
use Rattle.pd_clock.proofs.IndexLemmas.{noted_next, home_more, noted_by}
use Rattle.pd_clock.proofs.compaction.note_all.Goals as goal

pub loop-place-preserved : goal.loop-place-preserved
loop-place-preserved c =
    let ss = c.args.slots.now in
    let i = c.loop-place.place in
    let d : Slot = record { time = 0; owner = 0; live = false } in
    let at = place_of c.loop-place.places in
    let after = place_of c.note.new.places in
    let n = noted_by at after (get_or ss i d).owner i c.note.ensures.noted in
    record {
      noted = noted_next at after ss i d c.loop-place-test.true c.requires.live c.requires.apart n c.loop-place.invariant.noted;
      home = home_more at after ss i d c.loop-place-test.true n c.loop-place.invariant.home;
      len = omega (arith, c.note.ensures.len, c.loop-place.invariant.len);
      capacity = omega (arith, c.note.ensures.capacity, c.loop-place.invariant.capacity);
    }
