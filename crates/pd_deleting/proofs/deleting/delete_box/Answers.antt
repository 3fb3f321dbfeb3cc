use Rattle.std.proofs.Common.{sym, ap, ◌∙◌}
use Rattle.pd_deleting.specs.Deletes.{going}
use Rattle.pd_deleting.proofs.AfterLemmas.{cleared_so, taken_so, meet_so, on_so, within_so, wires_so, zero_so}
use Rattle.pd_deleting.proofs.DeleteLemmas.{stands_there}
use Rattle.pd_deleting.proofs.PortLemmas.{can_clear, can_take}
use Rattle.pd_deleting.proofs.deleting.delete_box.Goals as goal

pub take_out-requires-clause-can : goal.take_out-requires-clause-can
take_out-requires-clause-can g c = λ leaf reached.
    let p = c.args.patch.now in
    let x = c.in_ok-going.going in
    let port = c.in-Some.port in
    let is = ap (going p c.args.path.now) c.in_ok-going.ensures.number ∙ c.in_ok-going.ensures.is in
    can_take p x.place x.key c.requires.can (stands_there p c.args.path.now x.place.number x.place.canvas x.key is) port.node port.port (sym c.in-Some.ensures.told) port.side c.in-Some.ensures.side
    c.requires.meet leaf reached

pub clear_out-requires-clause-can : goal.clear_out-requires-clause-can
clear_out-requires-clause-can g c =
    let p = c.args.patch.now in
    let x = c.in_ok-going.going in
    let is = ap (going p c.args.path.now) c.in_ok-going.ensures.number ∙ c.in_ok-going.ensures.is in
    can_clear p x.place x.key c.requires.can (stands_there p c.args.path.now x.place.number x.place.canvas x.key is) c.requires.meet (sym c.in-None.ensures.told)

pub returns-in-Some-clause-goes_on : goal.returns-in-Some-clause-goes_on
returns-in-Some-clause-goes_on g c =
    let p = c.args.patch.now in
    let x = c.in_ok-going.going in
    let is = ap (going p c.args.path.now) c.in_ok-going.ensures.number ∙ c.in_ok-going.ensures.is in
    on_so p c.take_out.new.patch c.args.counts c.args.symbols.now c.args.path.now x.place.number c.args.steps.now c.take_out.new.steps x.place.canvas x.key is c.take_out.result
    (taken_so p c.take_out.new.patch c.args.counts c.args.symbols.now c.args.path.now x.place.number c.args.steps.now c.take_out.new.steps x.place.canvas x.key is c.take_out.result c.take_out.ensures.taken c.take_out.ensures.short)
    c.requires.can

pub returns-in-Some-clause-meet : goal.returns-in-Some-clause-meet
returns-in-Some-clause-meet g c =
    let p = c.args.patch.now in
    let x = c.in_ok-going.going in
    let is = ap (going p c.args.path.now) c.in_ok-going.ensures.number ∙ c.in_ok-going.ensures.is in
    meet_so p c.take_out.new.patch c.args.counts c.args.symbols.now c.args.path.now x.place.number c.args.steps.now c.take_out.new.steps x.place.canvas x.key is c.take_out.result
    (taken_so p c.take_out.new.patch c.args.counts c.args.symbols.now c.args.path.now x.place.number c.args.steps.now c.take_out.new.steps x.place.canvas x.key is c.take_out.result c.take_out.ensures.taken c.take_out.ensures.short)
    c.requires.meet

pub returns-in-Some-clause-within : goal.returns-in-Some-clause-within
returns-in-Some-clause-within g c =
    let p = c.args.patch.now in
    let x = c.in_ok-going.going in
    let is = ap (going p c.args.path.now) c.in_ok-going.ensures.number ∙ c.in_ok-going.ensures.is in
    within_so p c.take_out.new.patch c.args.counts c.args.symbols.now c.args.path.now x.place.number c.args.steps.now c.take_out.new.steps x.place.canvas x.key is c.take_out.result
    (taken_so p c.take_out.new.patch c.args.counts c.args.symbols.now c.args.path.now x.place.number c.args.steps.now c.take_out.new.steps x.place.canvas x.key is c.take_out.result c.take_out.ensures.taken c.take_out.ensures.short)
    c.requires.counted

pub returns-in-Some-clause-zero : goal.returns-in-Some-clause-zero
returns-in-Some-clause-zero g c =
    let p = c.args.patch.now in
    let x = c.in_ok-going.going in
    let is = ap (going p c.args.path.now) c.in_ok-going.ensures.number ∙ c.in_ok-going.ensures.is in
    zero_so p c.take_out.new.patch c.args.counts c.args.symbols.now c.args.path.now x.place.number c.args.steps.now c.take_out.new.steps x.place.canvas x.key is c.take_out.result
    (taken_so p c.take_out.new.patch c.args.counts c.args.symbols.now c.args.path.now x.place.number c.args.steps.now c.take_out.new.steps x.place.canvas x.key is c.take_out.result c.take_out.ensures.taken c.take_out.ensures.short)

pub returns-in-Some-clause-as_many : goal.returns-in-Some-clause-as_many
returns-in-Some-clause-as_many g c =
    let p = c.args.patch.now in
    let x = c.in_ok-going.going in
    let is = ap (going p c.args.path.now) c.in_ok-going.ensures.number ∙ c.in_ok-going.ensures.is in
    wires_so p c.take_out.new.patch c.args.counts c.args.symbols.now c.args.path.now x.place.number c.args.steps.now c.take_out.new.steps x.place.canvas x.key is c.take_out.result
    (taken_so p c.take_out.new.patch c.args.counts c.args.symbols.now c.args.path.now x.place.number c.args.steps.now c.take_out.new.steps x.place.canvas x.key is c.take_out.result c.take_out.ensures.taken c.take_out.ensures.short)

pub returns-in-None-clause-goes_on : goal.returns-in-None-clause-goes_on
returns-in-None-clause-goes_on g c =
    let p = c.args.patch.now in
    let x = c.in_ok-going.going in
    let is = ap (going p c.args.path.now) c.in_ok-going.ensures.number ∙ c.in_ok-going.ensures.is in
    on_so p c.clear_out.new.patch c.args.counts c.args.symbols.now c.args.path.now x.place.number c.args.steps.now c.clear_out.new.steps x.place.canvas x.key is c.clear_out.result
    (cleared_so p c.clear_out.new.patch c.args.counts c.args.symbols.now c.args.path.now x.place.number c.args.steps.now c.clear_out.new.steps x.place.canvas x.key is c.clear_out.result c.clear_out.ensures.cleared c.clear_out.ensures.short)
    c.requires.can

pub returns-in-None-clause-meet : goal.returns-in-None-clause-meet
returns-in-None-clause-meet g c =
    let p = c.args.patch.now in
    let x = c.in_ok-going.going in
    let is = ap (going p c.args.path.now) c.in_ok-going.ensures.number ∙ c.in_ok-going.ensures.is in
    meet_so p c.clear_out.new.patch c.args.counts c.args.symbols.now c.args.path.now x.place.number c.args.steps.now c.clear_out.new.steps x.place.canvas x.key is c.clear_out.result
    (cleared_so p c.clear_out.new.patch c.args.counts c.args.symbols.now c.args.path.now x.place.number c.args.steps.now c.clear_out.new.steps x.place.canvas x.key is c.clear_out.result c.clear_out.ensures.cleared c.clear_out.ensures.short)
    c.requires.meet

pub returns-in-None-clause-within : goal.returns-in-None-clause-within
returns-in-None-clause-within g c =
    let p = c.args.patch.now in
    let x = c.in_ok-going.going in
    let is = ap (going p c.args.path.now) c.in_ok-going.ensures.number ∙ c.in_ok-going.ensures.is in
    within_so p c.clear_out.new.patch c.args.counts c.args.symbols.now c.args.path.now x.place.number c.args.steps.now c.clear_out.new.steps x.place.canvas x.key is c.clear_out.result
    (cleared_so p c.clear_out.new.patch c.args.counts c.args.symbols.now c.args.path.now x.place.number c.args.steps.now c.clear_out.new.steps x.place.canvas x.key is c.clear_out.result c.clear_out.ensures.cleared c.clear_out.ensures.short)
    c.requires.counted

pub returns-in-None-clause-as_many : goal.returns-in-None-clause-as_many
returns-in-None-clause-as_many g c =
    let p = c.args.patch.now in
    let x = c.in_ok-going.going in
    let is = ap (going p c.args.path.now) c.in_ok-going.ensures.number ∙ c.in_ok-going.ensures.is in
    wires_so p c.clear_out.new.patch c.args.counts c.args.symbols.now c.args.path.now x.place.number c.args.steps.now c.clear_out.new.steps x.place.canvas x.key is c.clear_out.result
    (cleared_so p c.clear_out.new.patch c.args.counts c.args.symbols.now c.args.path.now x.place.number c.args.steps.now c.clear_out.new.steps x.place.canvas x.key is c.clear_out.result c.clear_out.ensures.cleared c.clear_out.ensures.short)
