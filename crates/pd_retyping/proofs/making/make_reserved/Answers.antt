use Rattle.std.proofs.Common.{arith, ◌∙◌}
use Rattle.pd_misfits.specs.Shedding.{IsWired}
use Rattle.pd_retyping.proofs.MakeLemmas as make
use Rattle.pd_retyping.proofs.making.make_reserved.Goals as goal

pub loosen_wires-left-requires : goal.loosen_wires-left-requires
loosen_wires-left-requires g c =
    let C = c.requires.can.1 in
    record { runs = C.can.runs; meet = C.meet; wires = C.wires; counted = c.requires.counted }

pub note_turned-notes-requires-clause-wires : goal.note_turned-notes-requires-clause-wires
note_turned-notes-requires-clause-wires g c =
    let p = c.args.patch.now in
    let room = c.args.room in
    let n = c.requires.can.0 in
    let C = c.requires.can.1 in
    let W : IsWired p.web = record { fans = c.laws.ensures.fans; feeds = c.laws.ensures.feeds } in
    let went = c.loosen_wires-left.ensures in
    (room.key, make.turned_wires p c.loosen_wires-left.new.patch room.key n room.seed c.args.gone.now c.args.turned.now C W c.args.steps.now c.loosen_wires-left.new.steps went.loosens went.sheds)

pub note_turned-notes-requires-clause-order : goal.note_turned-notes-requires-clause-order
note_turned-notes-requires-clause-order g c =
    let p = c.args.patch.now in
    let room = c.args.room in
    let n = c.requires.can.0 in
    let C = c.requires.can.1 in
    let W : IsWired p.web = record { fans = c.laws.ensures.fans; feeds = c.laws.ensures.feeds } in
    let went = c.loosen_wires-left.ensures in
    make.turned_follow p c.loosen_wires-left.new.patch room.key n room.seed c.args.gone.now c.args.turned.now C W c.args.steps.now c.loosen_wires-left.new.steps went.loosens went.sheds

pub loosen_wires-requires : goal.loosen_wires-requires
loosen_wires-requires g c =
    let p = c.args.patch.now in
    let room = c.args.room in
    let n = c.requires.can.0 in
    let C = c.requires.can.1 in
    let W : IsWired p.web = record { fans = c.laws.ensures.fans; feeds = c.laws.ensures.feeds } in
    let went = c.loosen_wires-left.ensures in
    record {
      runs = went.loosens.rewires;
      meet = went.loosens.web.meet;
      wires = make.turned_wires p c.loosen_wires-left.new.patch room.key n room.seed c.args.gone.now c.args.turned.now C W c.args.steps.now c.loosen_wires-left.new.steps went.loosens went.sheds;
      counted = went.counted;
    }

pub refit-requires-clause-can : goal.refit-requires-clause-can
refit-requires-clause-can g c =
    let p = c.args.patch.now in
    let room = c.args.room in
    let n = c.requires.can.0 in
    let C = c.requires.can.1 in
    let W : IsWired p.web = record { fans = c.laws.ensures.fans; feeds = c.laws.ensures.feeds } in
    let went = c.loosen_wires-left.ensures in
    let out = c.loosen_wires.ensures in (
      n,
      make.free_refits p c.loosen_wires-left.new.patch room.key n room.seed c.args.gone.now c.args.turned.now C W c.args.steps.now c.loosen_wires-left.new.steps went.loosens went.sheds
          c.loosen_wires.new.patch c.loosen_wires.new.steps out.loosens out.sheds,
    )

pub refit-requires-clause-room : goal.refit-requires-clause-room
refit-requires-clause-room g c =
    let p = c.args.patch.now in
    let room = c.args.room in
    let n = c.requires.can.0 in
    let C = c.requires.can.1 in
    let W : IsWired p.web = record { fans = c.laws.ensures.fans; feeds = c.laws.ensures.feeds } in
    let went = c.loosen_wires-left.ensures in
    let out = c.loosen_wires.ensures in
    make.free_room p c.loosen_wires-left.new.patch room.key n room.seed c.args.gone.now c.args.turned.now C W c.args.steps.now c.loosen_wires-left.new.steps went.loosens went.sheds
    c.loosen_wires.new.patch c.loosen_wires.new.steps out.loosens out.sheds room c.args.symbols.now c.requires.room

pub put_back-requires : goal.put_back-requires
put_back-requires g c =
    let p = c.args.patch.now in
    let room = c.args.room in
    let n = c.requires.can.0 in
    let C = c.requires.can.1 in
    let W : IsWired p.web = record { fans = c.laws.ensures.fans; feeds = c.laws.ensures.feeds } in
    let went = c.loosen_wires-left.ensures in
    let out = c.loosen_wires.ensures in
    let could = make.free_refits p c.loosen_wires-left.new.patch room.key n room.seed c.args.gone.now c.args.turned.now C W c.args.steps.now c.loosen_wires-left.new.steps went.loosens went.sheds
    c.loosen_wires.new.patch c.loosen_wires.new.steps out.loosens out.sheds in
    let R = c.refit.ensures.refitted n could.is in
    let noted = c.note_turned-notes.ensures in
    let back = make.fitted_return p c.loosen_wires-left.new.patch room.key n room.seed c.args.gone.now c.args.turned.now C W c.args.steps.now c.loosen_wires-left.new.steps went.loosens went.sheds
    c.loosen_wires.new.patch c.loosen_wires.new.steps out.loosens out.sheds
    c.refit.new.patch c.args.symbols.now R c.as_slice.result.now noted.wired noted.once (c.as_slice.ensures.value ∙ noted.notes) went.room out.room c.refit.ensures.room c.requires.back in
    (c.loosen_wires-left.new.patch.web, c.args.turned.now, back)

pub returns-clause-made : goal.returns-clause-made
returns-clause-made g c = λ n is.
    let p = c.args.patch.now in
    let room = c.args.room in
    let C = make.makes_same p room.key c.requires.can.0 n room.seed c.args.gone.now c.args.turned.now c.requires.can.1 is in
    let W : IsWired p.web = record { fans = c.laws.ensures.fans; feeds = c.laws.ensures.feeds } in
    let went = c.loosen_wires-left.ensures in
    let out = c.loosen_wires.ensures in
    let could = make.free_refits p c.loosen_wires-left.new.patch room.key n room.seed c.args.gone.now c.args.turned.now C W c.args.steps.now c.loosen_wires-left.new.steps went.loosens went.sheds
    c.loosen_wires.new.patch c.loosen_wires.new.steps out.loosens out.sheds in
    let R = c.refit.ensures.refitted n could.is in
    let noted = c.note_turned-notes.ensures in
    let back = make.fitted_return p c.loosen_wires-left.new.patch room.key n room.seed c.args.gone.now c.args.turned.now C W c.args.steps.now c.loosen_wires-left.new.steps went.loosens went.sheds
    c.loosen_wires.new.patch c.loosen_wires.new.steps out.loosens out.sheds
    c.refit.new.patch c.args.symbols.now R c.as_slice.result.now noted.wired noted.once (c.as_slice.ensures.value ∙ noted.notes) went.room out.room c.refit.ensures.room c.requires.back in
    let B = c.put_back.ensures c.loosen_wires-left.new.patch.web c.args.turned.now back in
    make.remade p c.loosen_wires-left.new.patch room.key n room.seed c.args.gone.now c.args.turned.now C W c.args.steps.now c.loosen_wires-left.new.steps went.loosens went.sheds
    c.loosen_wires.new.patch c.loosen_wires.new.steps out.loosens out.sheds
    c.refit.new.patch c.args.symbols.now R c.put_back.new.patch c.refit.new.steps c.put_back.new.steps B went.fewer out.fewer (c.refit.ensures.looks n could.is)

pub returns-clause-counted : goal.returns-clause-counted
returns-clause-counted g c =
    let p = c.args.patch.now in
    let room = c.args.room in
    let n = c.requires.can.0 in
    let C = c.requires.can.1 in
    let W : IsWired p.web = record { fans = c.laws.ensures.fans; feeds = c.laws.ensures.feeds } in
    let went = c.loosen_wires-left.ensures in
    let out = c.loosen_wires.ensures in
    let could = make.free_refits p c.loosen_wires-left.new.patch room.key n room.seed c.args.gone.now c.args.turned.now C W c.args.steps.now c.loosen_wires-left.new.steps went.loosens went.sheds
    c.loosen_wires.new.patch c.loosen_wires.new.steps out.loosens out.sheds in
    let R = c.refit.ensures.refitted n could.is in
    let noted = c.note_turned-notes.ensures in
    let back = make.fitted_return p c.loosen_wires-left.new.patch room.key n room.seed c.args.gone.now c.args.turned.now C W c.args.steps.now c.loosen_wires-left.new.steps went.loosens went.sheds
    c.loosen_wires.new.patch c.loosen_wires.new.steps out.loosens out.sheds
    c.refit.new.patch c.args.symbols.now R c.as_slice.result.now noted.wired noted.once (c.as_slice.ensures.value ∙ noted.notes) went.room out.room c.refit.ensures.room c.requires.back in
    let B = c.put_back.ensures c.loosen_wires-left.new.patch.web c.args.turned.now back in
    went.counted ∙ make.made_wires p c.loosen_wires-left.new.patch room.key n room.seed c.args.gone.now c.args.turned.now C W c.args.steps.now c.loosen_wires-left.new.steps went.loosens went.sheds
    c.loosen_wires.new.patch c.loosen_wires.new.steps out.loosens out.sheds
    c.refit.new.patch c.args.symbols.now R c.put_back.new.patch c.refit.new.steps c.put_back.new.steps B out.fewer

pub returns-clause-goes_on : goal.returns-clause-goes_on
returns-clause-goes_on g c =
    let p = c.args.patch.now in
    let room = c.args.room in
    let n = c.requires.can.0 in
    let C = c.requires.can.1 in
    let W : IsWired p.web = record { fans = c.laws.ensures.fans; feeds = c.laws.ensures.feeds } in
    let went = c.loosen_wires-left.ensures in
    let out = c.loosen_wires.ensures in
    let could = make.free_refits p c.loosen_wires-left.new.patch room.key n room.seed c.args.gone.now c.args.turned.now C W c.args.steps.now c.loosen_wires-left.new.steps went.loosens went.sheds
    c.loosen_wires.new.patch c.loosen_wires.new.steps out.loosens out.sheds in
    let R = c.refit.ensures.refitted n could.is in
    let noted = c.note_turned-notes.ensures in
    let back = make.fitted_return p c.loosen_wires-left.new.patch room.key n room.seed c.args.gone.now c.args.turned.now C W c.args.steps.now c.loosen_wires-left.new.steps went.loosens went.sheds
    c.loosen_wires.new.patch c.loosen_wires.new.steps out.loosens out.sheds
    c.refit.new.patch c.args.symbols.now R c.as_slice.result.now noted.wired noted.once (c.as_slice.ensures.value ∙ noted.notes) went.room out.room c.refit.ensures.room c.requires.back in
    let B = c.put_back.ensures c.loosen_wires-left.new.patch.web c.args.turned.now back in
    make.made_put p c.loosen_wires-left.new.patch room.key n room.seed c.args.gone.now c.args.turned.now C W c.args.steps.now c.loosen_wires-left.new.steps went.loosens went.sheds
    c.loosen_wires.new.patch c.loosen_wires.new.steps out.loosens out.sheds
    c.refit.new.patch c.args.symbols.now R c.put_back.new.patch c.refit.new.steps c.put_back.new.steps B

pub returns-clause-meet : goal.returns-clause-meet
returns-clause-meet g c =
    let p = c.args.patch.now in
    let room = c.args.room in
    let n = c.requires.can.0 in
    let C = c.requires.can.1 in
    let W : IsWired p.web = record { fans = c.laws.ensures.fans; feeds = c.laws.ensures.feeds } in
    let went = c.loosen_wires-left.ensures in
    let out = c.loosen_wires.ensures in
    let could = make.free_refits p c.loosen_wires-left.new.patch room.key n room.seed c.args.gone.now c.args.turned.now C W c.args.steps.now c.loosen_wires-left.new.steps went.loosens went.sheds
    c.loosen_wires.new.patch c.loosen_wires.new.steps out.loosens out.sheds in
    let R = c.refit.ensures.refitted n could.is in
    let noted = c.note_turned-notes.ensures in
    let back = make.fitted_return p c.loosen_wires-left.new.patch room.key n room.seed c.args.gone.now c.args.turned.now C W c.args.steps.now c.loosen_wires-left.new.steps went.loosens went.sheds
    c.loosen_wires.new.patch c.loosen_wires.new.steps out.loosens out.sheds
    c.refit.new.patch c.args.symbols.now R c.as_slice.result.now noted.wired noted.once (c.as_slice.ensures.value ∙ noted.notes) went.room out.room c.refit.ensures.room c.requires.back in
    let B = c.put_back.ensures c.loosen_wires-left.new.patch.web c.args.turned.now back in
    B.meet

pub returns-clause-fewer : goal.returns-clause-fewer
returns-clause-fewer g c =
    let p = c.args.patch.now in
    let room = c.args.room in
    let n = c.requires.can.0 in
    let C = c.requires.can.1 in
    let W : IsWired p.web = record { fans = c.laws.ensures.fans; feeds = c.laws.ensures.feeds } in
    let went = c.loosen_wires-left.ensures in
    let out = c.loosen_wires.ensures in
    let could = make.free_refits p c.loosen_wires-left.new.patch room.key n room.seed c.args.gone.now c.args.turned.now C W c.args.steps.now c.loosen_wires-left.new.steps went.loosens went.sheds
    c.loosen_wires.new.patch c.loosen_wires.new.steps out.loosens out.sheds in
    let R = c.refit.ensures.refitted n could.is in
    let noted = c.note_turned-notes.ensures in
    let back = make.fitted_return p c.loosen_wires-left.new.patch room.key n room.seed c.args.gone.now c.args.turned.now C W c.args.steps.now c.loosen_wires-left.new.steps went.loosens went.sheds
    c.loosen_wires.new.patch c.loosen_wires.new.steps out.loosens out.sheds
    c.refit.new.patch c.args.symbols.now R c.as_slice.result.now noted.wired noted.once (c.as_slice.ensures.value ∙ noted.notes) went.room out.room c.refit.ensures.room c.requires.back in
    let B = c.put_back.ensures c.loosen_wires-left.new.patch.web c.args.turned.now back in
    let same = make.made_wires p c.loosen_wires-left.new.patch room.key n room.seed c.args.gone.now c.args.turned.now C W c.args.steps.now c.loosen_wires-left.new.steps went.loosens went.sheds
    c.loosen_wires.new.patch c.loosen_wires.new.steps out.loosens out.sheds
    c.refit.new.patch c.args.symbols.now R c.put_back.new.patch c.refit.new.steps c.put_back.new.steps B out.fewer in
    let fewer = went.fewer in
    omega (arith, same, fewer)

pub returns-clause-zero : goal.returns-clause-zero
returns-clause-zero g c =
    let p = c.args.patch.now in
    let room = c.args.room in
    let n = c.requires.can.0 in
    let C = c.requires.can.1 in
    let W : IsWired p.web = record { fans = c.laws.ensures.fans; feeds = c.laws.ensures.feeds } in
    let went = c.loosen_wires-left.ensures in
    let out = c.loosen_wires.ensures in
    let could = make.free_refits p c.loosen_wires-left.new.patch room.key n room.seed c.args.gone.now c.args.turned.now C W c.args.steps.now c.loosen_wires-left.new.steps went.loosens went.sheds
    c.loosen_wires.new.patch c.loosen_wires.new.steps out.loosens out.sheds in
    let R = c.refit.ensures.refitted n could.is in
    let noted = c.note_turned-notes.ensures in
    let back = make.fitted_return p c.loosen_wires-left.new.patch room.key n room.seed c.args.gone.now c.args.turned.now C W c.args.steps.now c.loosen_wires-left.new.steps went.loosens went.sheds
    c.loosen_wires.new.patch c.loosen_wires.new.steps out.loosens out.sheds
    c.refit.new.patch c.args.symbols.now R c.as_slice.result.now noted.wired noted.once (c.as_slice.ensures.value ∙ noted.notes) went.room out.room c.refit.ensures.room c.requires.back in
    let B = c.put_back.ensures c.loosen_wires-left.new.patch.web c.args.turned.now back in
    make.made_zero p c.loosen_wires-left.new.patch room.key n room.seed c.args.gone.now c.args.turned.now C W c.args.steps.now c.loosen_wires-left.new.steps went.loosens went.sheds
    c.loosen_wires.new.patch c.loosen_wires.new.steps out.loosens out.sheds
    c.refit.new.patch c.args.symbols.now R c.put_back.new.patch c.refit.new.steps c.put_back.new.steps B
