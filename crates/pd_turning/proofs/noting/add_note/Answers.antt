use Rattle.std.proofs.Common.{drop, length, reverse, List, [], ◌∷◌, ◌++◌, ◌+◌, Option, refl, sym, ap, ◌∙◌}
use Rattle.std.proofs.lemmas.Option.{slice_get_read}
use Rattle.pd_misfits.specs.declared.wires.BoxWire.{BoxWire}
use Rattle.pd_turning.specs.declared.noting.NotedWire.{NotedWire}
use Rattle.pd_turning.specs.Notes.{note_of, notes_of}
use Rattle.pd_turning.proofs.NoteLemmas.{last_is, one_noted}
use Rattle.pd_turning.proofs.noting.add_note.Goals as goal

pub before_of-before-requires-clause-later : goal.before_of-before-requires-clause-later
before_of-before-requires-clause-later c = λ n at.
    let w = c.args.web.now in
    let ms = c.args.wires.now in
    c.last_before-later.ensures (note_of w ms n) (last_is w ms (c.args.place + 1) n c.as_slice.result.now at (c.as_slice.ensures.value ∙ c.requires.noted))

pub returns-clause-noted : goal.returns-clause-noted
returns-clause-noted c =
    let w = c.args.web.now in
    let ms = c.args.wires.now in
    let m = c.index-wires-place.result in
    let at = slice_get_read ms (length ms) c.args.place m refl c.requires.within c.index-wires-place.is in
    let noted : Option _ → NotedWire = λ o. record { line = m.line; before = o } in
    let noted_at : BoxWire → NotedWire = λ x. record { line = x.line; before = c.before_of-before.result } in
    c.note.ensures.told ∙ ap (λ (x : BoxWire). c.args.notes.now.items ++ noted_at x ∷ []) (sym c.index-wires-place.is) ∙ ap (λ (xs : List NotedWire). xs ++ noted c.before_of-before.result ∷ []) c.requires.noted
    ∙ ap (λ o. reverse (drop (c.args.place + 1) (notes_of w ms)) ++ noted o ∷ []) (c.before_of-before.ensures m at) ∙ one_noted w ms c.args.place m at
