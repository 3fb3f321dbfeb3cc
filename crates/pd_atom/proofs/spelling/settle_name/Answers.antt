use Rattle.std.proofs.Common.{◌≡◌, None, ap, sym, ◌∙◌, subst}
use Rattle.pd_atom.specs.Names.{name_of, given}
use Rattle.pd_atom.specs.Atoms.{IsOf}
use Rattle.pd_atom.specs.Tokens.{nameless, named, atom_read, IsSettled}
use Rattle.pd_atom.proofs.TokenLemmas.{atom_read_some, settled_nameless, settled_named, name_read, of_named, of_any}
use Rattle.pd_atom.proofs.spelling.settle_name.Goals as goal

pub returns-in-Some-clause-read : goal.returns-in-Some-clause-read
returns-in-Some-clause-read c =
    ap (atom_read c.args.symbols.now) (sym c.name-name.ensures.value) ∙ atom_read_some c.args.symbols.now c.name-name.result.now c.in-Some.other (sym c.in-Some.ensures.value)

pub returns-in-Some-clause-settled : goal.returns-in-Some-clause-settled
returns-in-Some-clause-settled c = settled_nameless c.args.symbols.now c.name-name.result.now c.in-Some.other (sym c.in-Some.ensures.value)

pub returns-in-Some-clause-of_table : goal.returns-in-Some-clause-of_table
returns-in-Some-clause-of_table c = of_any c.args.symbols.now c.in-Some.other c.in-Some.ensures.dollar

pub returns-in-None-clause-read : goal.returns-in-None-clause-read
returns-in-None-clause-read c =
    let names = c.args.symbols.now in
    let s = c.args.sym in
    let none : nameless (name_of names s) ≡ None = ap nameless (sym c.name-name.ensures.value) ∙ sym c.in-None.ensures.value in
    name_read names s c.name-name.ensures.table c.requires none ∙ ap (λ a. given a names) (ap (λ t. named t s) (sym c.name-name.ensures.value) ∙ sym c.named_atom.ensures)

pub returns-in-None-clause-settled : goal.returns-in-None-clause-settled
returns-in-None-clause-settled c =
    let names = c.args.symbols.now in
    let s = c.args.sym in
    let none : nameless (name_of names s) ≡ None = ap nameless (sym c.name-name.ensures.value) ∙ sym c.in-None.ensures.value in
    subst (IsSettled names) (ap (λ t. named t s) (sym c.name-name.ensures.value) ∙ sym c.named_atom.ensures) (settled_named names s c.name-name.ensures.table c.requires none)

pub returns-in-None-clause-of_table : goal.returns-in-None-clause-of_table
returns-in-None-clause-of_table c = subst (IsOf c.args.symbols.now) (sym c.named_atom.ensures) (of_named c.args.symbols.now c.name-name.result.now c.args.sym c.requires)
