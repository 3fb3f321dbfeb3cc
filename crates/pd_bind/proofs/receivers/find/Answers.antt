use Rattle.std.proofs.Common.{◌<◌, ◌≤◌, length, sym, ◌∙◌, arith}
use Rattle.pd_bind.proofs.FindLemmas.{asked_refused, asked_found, asked_new}
use Rattle.pd_bind.proofs.receivers.find.Goals as goal

pub returns-in_default-clause-value : goal.returns-in_default-clause-value
returns-in_default-clause-value c =
    sym (asked_refused c.args.symbols.now c.args.name.now c.in_default.field-0 (sym c.intern.ensures.answer ∙ c.in_default.is))

pub returns-then-number-len-clause-value : goal.returns-then-number-len-clause-value
returns-then-number-len-clause-value c =
    let low : c.in-Ok.symbol < length c.args.symbols.now = omega (arith, c.number.ensures, c.if-number-len.true, c.len-len.ensures.value) in
    sym (asked_found c.args.symbols.now c.args.name.now c.in-Ok.symbol (sym c.intern.ensures.answer ∙ c.in-Ok.is) low).0

pub returns-then-number-len-clause-table : goal.returns-then-number-len-clause-table
returns-then-number-len-clause-table c =
    let low : c.in-Ok.symbol < length c.args.symbols.now = omega (arith, c.number.ensures, c.if-number-len.true, c.len-len.ensures.value) in
    c.intern.ensures.names ∙ (asked_found c.args.symbols.now c.args.name.now c.in-Ok.symbol (sym c.intern.ensures.answer ∙ c.in-Ok.is) low).1

pub returns-clause-value : goal.returns-clause-value
returns-clause-value c =
    let high : length c.args.symbols.now ≤ c.in-Ok.symbol = omega (arith, c.number.ensures, c.if-number-len.false, c.len-len.ensures.value) in
    sym (asked_new c.args.symbols.now c.args.name.now c.in-Ok.symbol (sym c.intern.ensures.answer ∙ c.in-Ok.is) high)
