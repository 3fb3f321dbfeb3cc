use Rattle.std.proofs.Common.{Ok, length, ap, sym, subst, ◌∙◌, arith}
use Rattle.pd_atom.specs.Names.{answer_map, interned, name_of}
use Rattle.pd_atom.specs.Atoms.{IsOf}
use Rattle.pd_atom.specs.Expansion.{dollar_expanded, expanded, first_missing, runs_of}
use Rattle.pd_atom.specs.declared.Atom.TheVariants.{Symbol}
use Rattle.pd_atom.proofs.FillLemmas.{expanded_dollar, expanded_symbol, expanded_other, dollar_of_table}
use Rattle.pd_atom.proofs.expansion.expand.Goals as goal

pub intern-requires : goal.intern-requires
intern-requires c = omega (arith, ap length c.as_slice.ensures.value, c.fill-missing.ensures.some)

pub returns-in-Dollar-clause-answer : goal.returns-in-Dollar-clause-answer
returns-in-Dollar-clause-answer c =
    ap (λ e. Ok e) (c.dollar.ensures ∙ ap (dollar_expanded c.in-Dollar.number) c.argument.ensures)
    ∙ ap (λ o. o.answer) (sym (expanded_dollar c.args.symbols.now c.in-Dollar.number c.args.zero c.args.args.now))
    ∙ ap (λ a. (expanded c.args.symbols.now a c.args.zero c.args.args.now).answer) (sym c.in-Dollar.is)

pub returns-in-Dollar-clause-names : goal.returns-in-Dollar-clause-names
returns-in-Dollar-clause-names c =
    ap (λ o. o.names) (sym (expanded_dollar c.args.symbols.now c.in-Dollar.number c.args.zero c.args.args.now))
    ∙ ap (λ a. (expanded c.args.symbols.now a c.args.zero c.args.args.now).names) (sym c.in-Dollar.is)

pub returns-in-Dollar-clause-of_table : goal.returns-in-Dollar-clause-of_table
returns-in-Dollar-clause-of_table c =
    subst (λ e. IsOf c.args.symbols.now e.atom) (sym (c.dollar.ensures ∙ ap (dollar_expanded c.in-Dollar.number) c.argument.ensures))
    (dollar_of_table c.args.symbols.now c.in-Dollar.number c.args.zero c.args.args.now c.requires.args)

pub returns-in-Ok-clause-answer : goal.returns-in-Ok-clause-answer
returns-in-Ok-clause-answer c =
    let names = c.args.symbols.now in
    let s = c.in-DollarSymbol.sym in
    let name = c.as_slice.ensures.value ∙ c.fill-missing.ensures.name in
    ap (λ m. Ok (record { atom = Symbol c.in-Ok.sym; missing = m })) c.fill-missing.ensures.missing
    ∙ ap (answer_map (λ t. record { atom = Symbol t; missing = first_missing c.args.zero c.args.args.now (runs_of (name_of names s)) })) (c.in-Ok.ensures.answer ∙ ap (λ n. (interned names n).answer) name)
    ∙ ap (λ o. o.answer) (sym (expanded_symbol names s c.args.zero c.args.args.now))
    ∙ ap (λ a. (expanded names a c.args.zero c.args.args.now).answer) (sym c.in-DollarSymbol.is)

pub returns-in-Ok-clause-names : goal.returns-in-Ok-clause-names
returns-in-Ok-clause-names c =
    let names = c.args.symbols.now in
    let s = c.in-DollarSymbol.sym in
    let name = c.as_slice.ensures.value ∙ c.fill-missing.ensures.name in
    c.intern.ensures.names ∙ ap (λ n. (interned names n).names) name
    ∙ ap (λ o. o.names) (sym (expanded_symbol names s c.args.zero c.args.args.now))
    ∙ ap (λ a. (expanded names a c.args.zero c.args.args.now).names) (sym c.in-DollarSymbol.is)

pub returns-in-Err-clause-answer : goal.returns-in-Err-clause-answer
returns-in-Err-clause-answer c =
    let names = c.args.symbols.now in
    let s = c.in-DollarSymbol.sym in
    let name = c.as_slice.ensures.value ∙ c.fill-missing.ensures.name in
    ap (answer_map (λ t. record { atom = Symbol t; missing = first_missing c.args.zero c.args.args.now (runs_of (name_of names s)) })) (c.in-Err.ensures.answer ∙ ap (λ n. (interned names n).answer) name)
    ∙ ap (λ o. o.answer) (sym (expanded_symbol names s c.args.zero c.args.args.now))
    ∙ ap (λ a. (expanded names a c.args.zero c.args.args.now).answer) (sym c.in-DollarSymbol.is)

pub returns-in-Err-clause-names : goal.returns-in-Err-clause-names
returns-in-Err-clause-names c =
    let names = c.args.symbols.now in
    let s = c.in-DollarSymbol.sym in
    let name = c.as_slice.ensures.value ∙ c.fill-missing.ensures.name in
    c.intern.ensures.names ∙ ap (λ n. (interned names n).names) name
    ∙ ap (λ o. o.names) (sym (expanded_symbol names s c.args.zero c.args.args.now))
    ∙ ap (λ a. (expanded names a c.args.zero c.args.args.now).names) (sym c.in-DollarSymbol.is)

pub returns-in_default-clause-answer : goal.returns-in_default-clause-answer
returns-in_default-clause-answer c = ap (λ o. o.answer) (sym (expanded_other c.args.symbols.now c.args.atom c.args.zero c.args.args.now c.in_default.not-Dollar c.in_default.not-DollarSymbol))

pub returns-in_default-clause-names : goal.returns-in_default-clause-names
returns-in_default-clause-names c = ap (λ o. o.names) (sym (expanded_other c.args.symbols.now c.args.atom c.args.zero c.args.args.now c.in_default.not-Dollar c.in_default.not-DollarSymbol))
