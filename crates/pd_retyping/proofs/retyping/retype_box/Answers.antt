use Rattle.std.proofs.Common.{List, Err, take, sym, ap, ◌∙◌, subst}
use Rattle.std.specs.List.{All}
use Rattle.pd_atom.specs.declared.Atom.{Atom}
use Rattle.pd_atom.specs.Atoms.{IsOf}
use Rattle.pd_atom.specs.Names.{Names, Extends}
use Rattle.pd_gather.specs.Gather.{known}
use Rattle.pd_gather.proofs.AskLemmas.{names_cut}
use Rattle.pd_wiring.specs.declared.refusals.EditRefusal.{EditRefusal}
use Rattle.pd_wiring.specs.declared.refusals.EditRefusal.TheVariants.{ShelfFault}
use Rattle.pd_web.specs.Changes.{wires_told}
use Rattle.pd_adding.specs.declared.counts.Counts.{Counts}
use Rattle.pd_adding.proofs.AddLemmas.{extends_same}
use Rattle.pd_retyping.proofs.RetypeLemmas.{as_told, not_known, not_grown, left_so, no_fault, same_err, has_grown, names_grown, retypes_box, within_so}
use Rattle.pd_retyping.specs.Asking.{settled_text}
use Rattle.pd_retyping.specs.Retypes.{IsNotRetypedBy}
use Rattle.pd_retyping.proofs.AskLemmas.{kept_is_sub}
use Rattle.pd_retyping.proofs.BecomeLemmas.{lives_there}
use Rattle.pd_retyping.proofs.retyping.retype_box.Goals as goal

pub plan_of-requires : goal.plan_of-requires
plan_of-requires g c =
    record { known = subst (λ (text : List Atom). All (IsOf c.args.symbols.now) text) c.as_slice.ensures (c.are_of.ensures.all c.if-not-are_of.false) }

pub returns-then-not-are_of-clause-refused : goal.returns-then-not-are_of-clause-refused
returns-then-not-are_of-clause-refused g c =
    not_known (g.H.Shelf.holds c.args.shelf.now) c.args.patch.now c.args.counts c.args.site.name.now c.args.site.path.now c.args.number c.args.text.now (known c.args.library.now c.args.symbols.now)
    (subst (λ (text : List Atom). All (IsOf c.args.symbols.now) text → ⊥) c.as_slice.ensures (c.are_of.ensures.some c.if-not-are_of.true))

pub become_or_take-requires-clause-here : goal.become_or_take-requires-clause-here
become_or_take-requires-clause-here g c =
    let P = c.in_ok-plan.ensures.planned in
    lives_there c.args.patch.now c.in_ok-plan.plan.key P.node P.chosen.is

pub become_or_take-requires-clause-grown : goal.become_or_take-requires-clause-grown
become_or_take-requires-clause-grown g c =
    has_grown c.args.patch.now c.args.counts c.counts_without-left.result c.args.site.name.now c.args.site.path.now c.args.number c.args.text.now (known c.args.library.now c.args.symbols.now)
    c.in_ok-plan.plan c.in_ok-plan.ensures.planned c.counts_without-left.ensures.less
    (g.H.Shelf.holds c.args.shelf.now) c.grow_aside.new.library c.grow_aside.new.symbols c.in_ok-grown.grown c.in_ok-grown.ensures.grown

pub become_or_take-requires-clause-sub : goal.become_or_take-requires-clause-sub
become_or_take-requires-clause-sub g c = λ kept n is.
    let P = c.in_ok-plan.ensures.planned in
    kept_is_sub c.args.patch.now c.in_ok-plan.plan.key P.node n (settled_text c.args.symbols.now c.args.text.now) c.in_ok-plan.plan.keeps P.chosen.is P.keeps kept is

pub returns-in-Ok-clause-retyped : goal.returns-in-Ok-clause-retyped
returns-in-Ok-clause-retyped g c =
    let G = c.in_ok-grown.ensures.grown in
    let P = c.in_ok-plan.ensures.planned in
    let k = known c.args.library.now c.args.symbols.now in
    let holds = g.H.Shelf.holds c.args.shelf.now in
    let names = names_grown c.args.patch.now c.args.counts c.counts_without-left.result c.args.site.name.now c.args.site.path.now c.args.number c.args.text.now k c.in_ok-plan.plan P
    c.counts_without-left.ensures.less holds c.grow_aside.new.library c.grow_aside.new.symbols c.in_ok-grown.grown G in
    retypes_box c.args.patch.now c.args.counts c.counts_without-left.result c.args.site.name.now c.args.site.path.now c.args.number c.args.text.now k c.in_ok-plan.plan P
    c.counts_without-left.ensures.less holds c.grow_aside.new.library c.grow_aside.new.symbols c.in_ok-grown.grown G
    c.become_or_take.new.patch c.args.site.now c.in-Ok.retyped c.become_or_take.new.symbols c.args.steps.now c.become_or_take.new.steps c.requires.found
    (subst (λ (text : List Atom). All (IsOf c.args.symbols.now) text) c.as_slice.ensures (c.are_of.ensures.all c.if-not-are_of.false)) c.in_ok-grown.ensures.written
    (c.in-Ok.ensures.became c.args.symbols.now c.args.text.now P.node G.added P.chosen.is G.is names P.keeps) c.in-Ok.ensures.key c.in-Ok.ensures.canvas c.in-Ok.ensures.counts c.become_or_take.ensures.table

pub returns-in-Ok-clause-counted : goal.returns-in-Ok-clause-counted
returns-in-Ok-clause-counted g c = ap (λ (n : Counts). n.wires) c.in-Ok.ensures.counts

pub returns-in-Ok-clause-within : goal.returns-in-Ok-clause-within
returns-in-Ok-clause-within g c =
    within_so c.args.counts c.in-Ok.retyped.counts c.in_ok-grown.grown.counts (wires_told c.become_or_take.new.patch.web) (wires_told c.args.patch.now.web)
    c.requires.within c.in_ok-grown.ensures.within c.requires.counted c.become_or_take.ensures.fewer c.in-Ok.ensures.counts

pub returns-clause-refused : goal.returns-clause-refused
returns-clause-refused g c =
    let G = c.in_ok-grown.ensures.grown in
    let P = c.in_ok-plan.ensures.planned in
    left_so c.args.patch.now c.args.counts c.counts_without-left.result c.args.site.name.now c.args.site.path.now c.args.number c.args.text.now (known c.args.library.now c.args.symbols.now)
    c.in_ok-plan.plan P c.counts_without-left.ensures.less (g.H.Shelf.holds c.args.shelf.now) c.become_or_take.new.patch G.added c.in-Err.why G.comes c.become_or_take.ensures.goes_on
    (c.in-Err.ensures.refused c.args.symbols.now c.args.text.now P.node G.added P.chosen.is G.is P.keeps)

pub returns-clause-cause : goal.returns-clause-cause
returns-clause-cause g c = λ h.
    let G = c.in_ok-grown.ensures.grown in
    let P = c.in_ok-plan.ensures.planned in
    absurd (no_fault c.args.symbols.now c.args.text.now c.args.patch.now c.become_or_take.new.patch c.in_ok-plan.plan.key P.node G.added c.in-Err.why (c.in-Err.ensures.refused c.args.symbols.now c.args.text.now P.node G.added P.chosen.is G.is P.keeps) (same_err c.in-Err.why ShelfFault h))

pub returns-clause-extends : goal.returns-clause-extends
returns-clause-extends g c =
    let same = names_cut c.args.symbols.now c.grow_aside.new.symbols c.forget.new.symbols c.len-names.result c.grow_aside.ensures.extends c.len-names.ensures.value
    (c.forget.ensures.names ∙ ap (λ (names : Names). take c.len-names.result names) c.become_or_take.ensures.table) in
    subst (Extends c.args.symbols.now) (sym same) (extends_same c.args.symbols.now)

pub returns-in_err-grown-clause-refused : goal.returns-in_err-grown-clause-refused
returns-in_err-grown-clause-refused g c =
    let k = known c.args.library.now c.args.symbols.now in
    let why = c.in_err-grown.field-0.0 in
    as_told c.from_residual-in_err-grown.result why
    (IsNotRetypedBy (g.H.Shelf.holds c.args.shelf.now) c.args.patch.now c.args.patch.now c.args.counts c.args.site.name.now c.args.site.path.now c.args.number c.args.text.now k) c.from_residual-in_err-grown.ensures.1
    (not_grown c.args.patch.now c.args.counts c.counts_without-left.result c.args.site.name.now c.args.site.path.now c.args.number c.args.text.now k c.in_ok-plan.plan c.in_ok-plan.ensures.planned
    c.counts_without-left.ensures.less (g.H.Shelf.holds c.args.shelf.now) why c.in_err-grown.ensures.refused (λ h. c.in_err-grown.ensures.asks (ap (λ (x : EditRefusal). Err x) h)))
