use Rattle.std.proofs.Common.{ℕ, List, take, length, sym, ap, ◌∙◌, subst, arith}
use Rattle.std.specs.Prelude.{IsSome}
use Rattle.slab.specs.Slab.{get}
use Rattle.pd_atom.specs.Names.{Names, Extends}
use Rattle.pd_atom.proofs.NameLemmas.{six_names}
use Rattle.pd_library.specs.declared.answers.Answer.{Answer}
use Rattle.pd_gather.specs.Gather.{known, AreProper}
use Rattle.pd_gather.proofs.AskLemmas.{names_cut}
use Rattle.pd_wiring.specs.declared.refusals.EditRefusal.TheVariants.{ShelfFault}
use Rattle.pd_adding.specs.Counts.{AreWithin}
use Rattle.pd_adding.proofs.AddLemmas.{files_cut, extends_same}
use Rattle.pd_putting.proofs.AddLemmas.{not_known, left_out, no_fault, same_err, has_grown, names_grown, count_grown, adds_box}
use Rattle.pd_putting.proofs.ComingLemmas.{canvas_there}
use Rattle.pd_putting.proofs.PlaceLemmas.{canvas_lives}
use Rattle.pd_putting.proofs.adding.add_box.Goals as goal

pub put_last-requires-clause-here : goal.put_last-requires-clause-here
put_last-requires-clause-here g c =
    let p = c.args.patch.now in
    let G = c.in_ok-grown.ensures.grown in
    let k = known c.args.library.now c.args.symbols.now in
    let at = canvas_there (g.H.Shelf.holds c.args.shelf.now) p c.args.counts c.args.site.name.now c.args.site.path.now c.args.edit.now k G.added G.comes in
    subst (λ canvas. IsSome (get p.grove.boards canvas)) (sym G.is.canvas) (canvas_lives p.grove c.requires.can.forest c.args.site.path.now G.added.canvas at)

pub put_last-requires-clause-grown : goal.put_last-requires-clause-grown
put_last-requires-clause-grown g c =
    has_grown (g.H.Shelf.holds c.args.shelf.now) c.args.patch.now c.args.counts c.args.site.name.now c.args.site.path.now c.args.edit.now
    (known c.args.library.now c.args.symbols.now) c.grow_aside.new.library c.grow_aside.new.symbols c.in_ok-grown.grown c.in_ok-grown.ensures.grown

pub put_last-requires-clause-shallow : goal.put_last-requires-clause-shallow
put_last-requires-clause-shallow g c = λ a A. c.in_ok-grown.ensures.shallow a A c.requires.can.forest

pub forget-requires : goal.forget-requires
forget-requires g c =
    let six = six_names c.args.symbols.now c.len-names.ensures.table in
    omega (arith, six, c.len-names.ensures.value)

pub returns-then-not-is_known-clause-refused : goal.returns-then-not-is_known-clause-refused
returns-then-not-is_known-clause-refused g c =
    not_known (g.H.Shelf.holds c.args.shelf.now) c.args.patch.now c.args.counts c.args.site.name.now c.args.site.path.now c.args.edit.now (known c.args.library.now c.args.symbols.now)
    (c.is_known.ensures.unknown c.if-not-is_known.true)

pub returns-in-Ok-clause-added : goal.returns-in-Ok-clause-added
returns-in-Ok-clause-added g c =
    let G = c.in_ok-grown.ensures.grown in
    let k = known c.args.library.now c.args.symbols.now in
    let holds = g.H.Shelf.holds c.args.shelf.now in
    let name = c.args.site.name.now in
    let path = c.args.site.path.now in
    let names = names_grown holds c.args.patch.now c.args.counts name path c.args.edit.now k c.grow_aside.new.library c.grow_aside.new.symbols c.in_ok-grown.grown G in
    adds_box holds c.args.patch.now c.args.counts name path c.args.edit.now k c.grow_aside.new.library c.grow_aside.new.symbols c.in_ok-grown.grown G
    c.put_last.new.patch c.args.site.now c.in-Ok.put c.put_last.new.symbols c.requires.found (c.is_known.ensures.known c.if-not-is_known.false) c.in_ok-grown.ensures.written
    (c.in-Ok.ensures.put G.added G.is names) c.in-Ok.ensures.canvas c.in-Ok.ensures.counts c.put_last.ensures.table

pub returns-in-Ok-clause-counted : goal.returns-in-Ok-clause-counted
returns-in-Ok-clause-counted g c =
    let G = c.in_ok-grown.ensures.grown in
    let k = known c.args.library.now c.args.symbols.now in
    let holds = g.H.Shelf.holds c.args.shelf.now in
    let name = c.args.site.name.now in
    let path = c.args.site.path.now in
    let names = names_grown holds c.args.patch.now c.args.counts name path c.args.edit.now k c.grow_aside.new.library c.grow_aside.new.symbols c.in_ok-grown.grown G in
    count_grown holds c.args.patch.now c.args.counts name path c.args.edit.now k c.grow_aside.new.library c.grow_aside.new.symbols c.in_ok-grown.grown G
    c.put_last.new.patch c.args.site.now c.in-Ok.put c.requires.counted c.in-Ok.ensures.counts (c.in-Ok.ensures.put G.added G.is names)

pub returns-in-Ok-clause-within : goal.returns-in-Ok-clause-within
returns-in-Ok-clause-within g c = subst AreWithin (sym c.in-Ok.ensures.counts) c.in_ok-grown.ensures.within

pub returns-in-Err-clause-refused : goal.returns-in-Err-clause-refused
returns-in-Err-clause-refused g c =
    let G = c.in_ok-grown.ensures.grown in
    left_out (g.H.Shelf.holds c.args.shelf.now) c.args.patch.now c.put_last.new.patch c.args.counts c.args.site.name.now c.args.site.path.now c.args.edit.now
    (known c.args.library.now c.args.symbols.now) G.added c.in-Err.why G.comes c.put_last.ensures.goes_on (c.in-Err.ensures.refused G.added G.is)

pub returns-in-Err-clause-cause : goal.returns-in-Err-clause-cause
returns-in-Err-clause-cause g c = λ h.
    let G = c.in_ok-grown.ensures.grown in
    absurd (no_fault c.args.patch.now c.put_last.new.patch G.added c.in-Err.why (c.in-Err.ensures.refused G.added G.is) (same_err c.in-Err.why ShelfFault h))

pub returns-in-Err-clause-extends : goal.returns-in-Err-clause-extends
returns-in-Err-clause-extends g c =
    let same = names_cut c.args.symbols.now c.grow_aside.new.symbols c.forget.new.symbols c.len-names.result c.grow_aside.ensures.extends c.len-names.ensures.value
    (c.forget.ensures.names ∙ ap (λ (names : Names). take c.len-names.result names) c.put_last.ensures.table) in
    subst (Extends c.args.symbols.now) (sym same) (extends_same c.args.symbols.now)

pub returns-in-Err-clause-names : goal.returns-in-Err-clause-names
returns-in-Err-clause-names g c =
    names_cut c.args.symbols.now c.grow_aside.new.symbols c.forget.new.symbols c.len-names.result c.grow_aside.ensures.extends c.len-names.ensures.value
    (c.forget.ensures.names ∙ ap (λ (names : Names). take c.len-names.result names) c.put_last.ensures.table)

pub returns-in-Err-clause-library : goal.returns-in-Err-clause-library
returns-in-Err-clause-library g c =
    let len = c.len-files.ensures.count ∙ ap (λ (xs : List (ℕ × Answer)). length xs) c.files.ensures in
    files_cut c.args.library.now c.grow_aside.new.library c.forget.new.self c.len-files.result c.grow_aside.ensures.behind len c.forget.ensures.files

pub returns-in-Ok-clause-found : goal.returns-in-Ok-clause-found
returns-in-Ok-clause-found g c = subst (λ (names : Names). AreProper names c.grow_aside.new.library) (sym c.put_last.ensures.table) c.grow_aside.ensures.found

pub returns-in-Ok-clause-extends : goal.returns-in-Ok-clause-extends
returns-in-Ok-clause-extends g c = subst (Extends c.args.symbols.now) (sym c.put_last.ensures.table) c.grow_aside.ensures.extends
