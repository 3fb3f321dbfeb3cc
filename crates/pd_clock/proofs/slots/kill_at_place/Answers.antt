use Rattle.std.proofs.Common.{◌≡◌, ◌+◌, Some, None, false, arith, sym, ◌∙◌, ap}
use Rattle.std.specs.Prelude.{slice_set}
use Rattle.pd_clock.specs.declared.slots.Slot.{Slot}
use Rattle.pd_clock.specs.Index.{place_of}
use Rattle.pd_clock.proofs.HeapLemmas.{get_is}
use Rattle.pd_clock.proofs.IndexLemmas.{one_dies, none_dies}
use Rattle.pd_clock.proofs.slots.kill_at_place.Goals as goal

pub returns-in-Some-clause-items : goal.returns-in-Some-clause-items
returns-in-Some-clause-items c =
    let ss = c.args.slots.now.items in
    let p = c.in-Some.found.now in
    let at : place_of c.args.places.now c.args.owner ≡ Some p = sym c.in-Some.ensures.value in
    let a = c.requires.places.home c.args.owner p at in
    let is : c.index-last.result.now ≡ a.0 = c.index-last.ensures ∙ get_is ss p a.0 c.index-last.result.now a.1 in
    let start : p ≡ 0 + p = omega arith in
    ap (λ (s : Slot). slice_set ss p (record { time = s.time; owner = s.owner; live = false })) is
    ∙ sym (one_dies (place_of c.args.places.now) c.args.owner 0 p ss a.0 c.requires.places.noted (at ∙ ap Some start) a.1 a.2)

pub returns-in-None-clause-items : goal.returns-in-None-clause-items
returns-in-None-clause-items c =
    let none : place_of c.args.places.now c.args.owner ≡ None = sym c.in-None.ensures.value in
    sym
    (none_dies (place_of c.args.places.now) c.args.owner 0 c.args.slots.now.items c.requires.places.noted
    (λ j l e. absurd (let q : None ≡ Some j = sym none ∙ e in cc)))
