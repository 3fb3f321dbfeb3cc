use Rattle.std.proofs.Common.{length, ap, arith}
use Rattle.std.proofs.lemmas.List.{length-append}
use Rattle.pd_atom.proofs.TokenLemmas.{symbol_of, printed_len}
use Rattle.pd_atom.proofs.spelling.spell.Goals as goal

pub append-requires-in-Symbol : goal.append-requires-in-Symbol
append-requires-in-Symbol c =
    let low = symbol_of c.args.symbols.now c.args.atom c.in-Symbol.sym c.in-Symbol.is c.requires in
    let short = (c.name.ensures.table.short c.in-Symbol.sym low).1 in
    omega (arith, short, ap length c.name.ensures.value, ap length c.clear.ensures)

pub returns-in-Number-clause-some : goal.returns-in-Number-clause-some
returns-in-Number-clause-some c =
    let some = (printed_len c.in-Number.number c.micros-micros.ensures.in_range).0 in
    omega (arith, some, ap length c.append.ensures, length-append c.clear.new.self.items c.as_slice.result.now, ap length c.as_slice.ensures.value, ap length c.print.ensures)
