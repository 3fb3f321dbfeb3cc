use Rattle.std.proofs.Common.{◌≡◌, [], None, Ok, ap, sym, ◌∙◌, subst}
use Rattle.std.proofs.lemmas.Option.{get_or_from_slice_get}
use Rattle.pd_atom.specs.Names.{name_of, answer_map}
use Rattle.pd_atom.specs.Tokens.{nameless, named, IsSettled}
use Rattle.pd_atom.proofs.TokenLemmas.{atom_read_some, atom_read_none, settled_nameless, settled_named}
use Rattle.pd_atom.proofs.tokens.read_token.Goals as goal

pub returns-in-Some-clause-answer : goal.returns-in-Some-clause-answer
returns-in-Some-clause-answer c = ap (λ o. o.answer) (sym (atom_read_some c.args.symbols.now c.args.token.now c.in-Some.atom (sym c.in-Some.ensures.value)))

pub returns-in-Some-clause-names : goal.returns-in-Some-clause-names
returns-in-Some-clause-names c = ap (λ o. o.names) (sym (atom_read_some c.args.symbols.now c.args.token.now c.in-Some.atom (sym c.in-Some.ensures.value)))

pub returns-in-Some-clause-settled : goal.returns-in-Some-clause-settled
returns-in-Some-clause-settled c = settled_nameless c.args.symbols.now c.args.token.now c.in-Some.atom (sym c.in-Some.ensures.value)

pub returns-in-Ok-clause-answer : goal.returns-in-Ok-clause-answer
returns-in-Ok-clause-answer c =
    ap (λ a. Ok a) c.named_atom.ensures ∙ ap (answer_map (named c.args.token.now)) c.in-Ok.ensures.answer
    ∙ ap (λ o. o.answer) (sym (atom_read_none c.args.symbols.now c.args.token.now (sym c.in-None.ensures.value)))

pub returns-in-Ok-clause-names : goal.returns-in-Ok-clause-names
returns-in-Ok-clause-names c = c.intern.ensures.names ∙ ap (λ o. o.names) (sym (atom_read_none c.args.symbols.now c.args.token.now (sym c.in-None.ensures.value)))

pub returns-in-Ok-clause-settled : goal.returns-in-Ok-clause-settled
returns-in-Ok-clause-settled c =
    let names = c.intern.new.self in
    let s = c.in-Ok.sym in
    let token = c.args.token.now in
    let at : name_of names s ≡ token = get_or_from_slice_get names s token [] c.in-Ok.ensures.named in
    let none : nameless (name_of names s) ≡ None = ap nameless at ∙ sym c.in-None.ensures.value in
    subst (IsSettled names) (ap (λ t. named t s) at ∙ sym c.named_atom.ensures) (settled_named names s c.in-Ok.ensures.table c.in-Ok.ensures.of_table none)

pub returns-in-Err-clause-answer : goal.returns-in-Err-clause-answer
returns-in-Err-clause-answer c =
    ap (answer_map (named c.args.token.now)) c.in-Err.ensures.answer
    ∙ ap (λ o. o.answer) (sym (atom_read_none c.args.symbols.now c.args.token.now (sym c.in-None.ensures.value)))

pub returns-in-Err-clause-names : goal.returns-in-Err-clause-names
returns-in-Err-clause-names c = c.intern.ensures.names ∙ ap (λ o. o.names) (sym (atom_read_none c.args.symbols.now c.args.token.now (sym c.in-None.ensures.value)))
