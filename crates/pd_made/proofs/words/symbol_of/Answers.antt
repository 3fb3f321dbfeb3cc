use Rattle.std.proofs.Common.{length, ap, arith}
use Rattle.pd_made.proofs.TableLemmas.{interned_ok, interned_few, place_of}
use Rattle.pd_made.proofs.words.symbol_of.Goals as goal

pub unreachable-requires : goal.unreachable-requires
unreachable-requires c =
    let known = (interned_ok c.args.symbols.now c.args.name.now c.requires.short c.requires.room).1 in
    cc (known, c.intern.ensures.answer, c.in-Err.is)

pub returns-clause-place : goal.returns-clause-place
returns-clause-place c =
    place_of c.intern.new.self c.args.name.now c.in-Ok.symbol c.in-Ok.ensures.table c.in-Ok.ensures.of_table c.in-Ok.ensures.named

pub returns-clause-few : goal.returns-clause-few
returns-clause-few c =
    let few = interned_few c.args.symbols.now c.args.name.now c.requires.short c.requires.room in
    omega (arith, few, ap length c.intern.ensures.names)
