use Rattle.std.proofs.Common.{Ok, ◌≡◌, ◌≤◌, ◌<◌, ◌++◌, ◌∷◌, [], Some, length, slice_get, position, bytes_eq, sym, subst, ap, ◌∙◌, arith}
use Rattle.pd_atom.specs.Names.{IsTable, most}
use Rattle.pd_atom.proofs.NameLemmas.{interned_long, interned_found, interned_full, interned_new, position_named, last_got, table_push}
use Rattle.pd_atom.proofs.symbols.Symbols.intern.Goals as goal

pub returns-then-name-gt-LONGEST-clause-answer : goal.returns-then-name-gt-LONGEST-clause-answer
returns-then-name-gt-LONGEST-clause-answer c = ap (λ o. o.answer) (sym (interned_long c.args.self.now c.args.name.now c.if-name-gt-LONGEST.true))

pub returns-then-name-gt-LONGEST-clause-names : goal.returns-then-name-gt-LONGEST-clause-names
returns-then-name-gt-LONGEST-clause-names c = ap (λ o. o.names) (sym (interned_long c.args.self.now c.args.name.now c.if-name-gt-LONGEST.true))

pub returns-in-Some-clause-answer : goal.returns-in-Some-clause-answer
returns-in-Some-clause-answer c =
    let there = ap (position (bytes_eq c.args.name.now)) (sym c.self.view_is) ∙ sym c.in-Some.ensures ∙ ap Some (sym c.symbol.ensures) in
    ap (λ o. o.answer) (sym (interned_found c.args.self.now c.args.name.now c.symbol.result c.if-name-gt-LONGEST.false there))

pub returns-in-Some-clause-names : goal.returns-in-Some-clause-names
returns-in-Some-clause-names c =
    ap (λ o. o.names) (sym (interned_found c.args.self.now c.args.name.now c.in-Some.place c.if-name-gt-LONGEST.false (ap (position (bytes_eq c.args.name.now)) (sym c.self.view_is) ∙ sym c.in-Some.ensures)))

pub returns-in-Some-clause-named : goal.returns-in-Some-clause-named
returns-in-Some-clause-named c =
    let there = ap (position (bytes_eq c.args.name.now)) (sym c.self.view_is) ∙ sym c.in-Some.ensures ∙ ap Some (sym c.symbol.ensures) in
    position_named c.args.self.now c.args.name.now c.symbol.result there

pub returns-then-place-eq-MOST-clause-answer : goal.returns-then-place-eq-MOST-clause-answer
returns-then-place-eq-MOST-clause-answer c =
    let full : most ≤ length c.args.self.now = omega (arith, c.len-place.ensures.value, c.if-place-eq-MOST.true, ap length c.self.view_is) in
    ap (λ o. o.answer) (sym (interned_full c.args.self.now c.args.name.now c.if-name-gt-LONGEST.false (ap (position (bytes_eq c.args.name.now)) (sym c.self.view_is) ∙ sym c.in_default.ensures) full))

pub returns-then-place-eq-MOST-clause-names : goal.returns-then-place-eq-MOST-clause-names
returns-then-place-eq-MOST-clause-names c =
    let full : most ≤ length c.args.self.now = omega (arith, c.len-place.ensures.value, c.if-place-eq-MOST.true, ap length c.self.view_is) in
    ap (λ o. o.names) (sym (interned_full c.args.self.now c.args.name.now c.if-name-gt-LONGEST.false (ap (position (bytes_eq c.args.name.now)) (sym c.self.view_is) ∙ sym c.in_default.ensures) full))

pub invariant_of-self : goal.invariant_of-self
invariant_of-self c =
    let room : length c.self.inside.table < most = omega (arith, c.len-place.ensures.value, c.len-place.ensures.few, c.if-place-eq-MOST.false) in
    subst IsTable (sym c.push.ensures)
    (table_push c.self.inside.table c.args.name.now c.self.invariant c.requires c.if-name-gt-LONGEST.false (sym c.in_default.ensures) room)

pub returns-clause-answer : goal.returns-clause-answer
returns-clause-answer c =
    let room : length c.args.self.now < most = omega (arith, c.len-place.ensures.value, c.len-place.ensures.few, c.if-place-eq-MOST.false, ap length c.self.view_is) in
    let number : c.symbol-2.result ≡ length c.args.self.now = omega (arith, c.symbol-2.ensures, c.len-place.ensures.value, ap length c.self.view_is) in
    ap (λ n. Ok n) number ∙ ap (λ o. o.answer) (sym (interned_new c.args.self.now c.args.name.now c.if-name-gt-LONGEST.false (ap (position (bytes_eq c.args.name.now)) (sym c.self.view_is) ∙ sym c.in_default.ensures) room))

pub returns-clause-names : goal.returns-clause-names
returns-clause-names c =
    let room : length c.args.self.now < most = omega (arith, c.len-place.ensures.value, c.len-place.ensures.few, c.if-place-eq-MOST.false, ap length c.self.view_is) in
    c.push.ensures ∙ ap (λ ns. ns ++ c.args.name.now ∷ []) c.self.view_is
    ∙ ap (λ o. o.names) (sym (interned_new c.args.self.now c.args.name.now c.if-name-gt-LONGEST.false (ap (position (bytes_eq c.args.name.now)) (sym c.self.view_is) ∙ sym c.in_default.ensures) room))

pub returns-clause-named : goal.returns-clause-named
returns-clause-named c =
    let number : c.symbol-2.result ≡ length c.self.inside.table = omega (arith, c.symbol-2.ensures, c.len-place.ensures.value) in
    ap (λ i. slice_get c.push.new.self i) number ∙ ap (λ ns. slice_get ns (length c.self.inside.table)) c.push.ensures ∙ last_got c.self.inside.table c.args.name.now

pub returns-clause-table : goal.returns-clause-table
returns-clause-table c = invariant_of-self c
