use Rattle.std.proofs.Common.{sym, subst}
use Rattle.pd_atom.specs.Atoms.{IsOf}
use Rattle.pd_atom.proofs.TokenLemmas.{number_settled, dollar_settled, comma_settled, semi_settled, settled_from, read_as}
use Rattle.pd_atom.proofs.spelling.settle.Goals as goal
use Rattle.pd_atom.specs.declared.Atom.TheVariants.{Number, Symbol, Dollar, DollarSymbol, Comma, Semi}

pub returns-in-Number-clause-read : goal.returns-in-Number-clause-read
returns-in-Number-clause-read c = read_as c.args.symbols.now c.args.atom (Number c.in-Number.number) (Number c.in-Number.number) c.in-Number.is (number_settled c.args.symbols.now c.in-Number.number c.micros-micros.ensures.in_range)

pub returns-in-Number-clause-value : goal.returns-in-Number-clause-value
returns-in-Number-clause-value c = sym (settled_from c.args.symbols.now c.args.atom (Number c.in-Number.number) (read_as c.args.symbols.now c.args.atom (Number c.in-Number.number) (Number c.in-Number.number) c.in-Number.is (number_settled c.args.symbols.now c.in-Number.number c.micros-micros.ensures.in_range)))

pub returns-in-Number-clause-settled : goal.returns-in-Number-clause-settled
returns-in-Number-clause-settled c = number_settled c.args.symbols.now c.in-Number.number c.micros-micros.ensures.in_range

pub returns-in-Dollar-clause-read : goal.returns-in-Dollar-clause-read
returns-in-Dollar-clause-read c = read_as c.args.symbols.now c.args.atom (Dollar c.in-Dollar.number) (Dollar c.in-Dollar.number) c.in-Dollar.is (dollar_settled c.args.symbols.now c.in-Dollar.number (subst (IsOf c.args.symbols.now) c.in-Dollar.is c.requires))

pub returns-in-Dollar-clause-value : goal.returns-in-Dollar-clause-value
returns-in-Dollar-clause-value c = sym (settled_from c.args.symbols.now c.args.atom (Dollar c.in-Dollar.number) (read_as c.args.symbols.now c.args.atom (Dollar c.in-Dollar.number) (Dollar c.in-Dollar.number) c.in-Dollar.is (dollar_settled c.args.symbols.now c.in-Dollar.number (subst (IsOf c.args.symbols.now) c.in-Dollar.is c.requires))))

pub returns-in-Dollar-clause-settled : goal.returns-in-Dollar-clause-settled
returns-in-Dollar-clause-settled c = dollar_settled c.args.symbols.now c.in-Dollar.number (subst (IsOf c.args.symbols.now) c.in-Dollar.is c.requires)

pub returns-in-Comma-clause-read : goal.returns-in-Comma-clause-read
returns-in-Comma-clause-read c = read_as c.args.symbols.now c.args.atom (Comma) (Comma) c.in-Comma.is (comma_settled c.args.symbols.now)

pub returns-in-Comma-clause-value : goal.returns-in-Comma-clause-value
returns-in-Comma-clause-value c = sym (settled_from c.args.symbols.now c.args.atom (Comma) (read_as c.args.symbols.now c.args.atom (Comma) (Comma) c.in-Comma.is (comma_settled c.args.symbols.now)))

pub returns-in-Comma-clause-settled : goal.returns-in-Comma-clause-settled
returns-in-Comma-clause-settled c = comma_settled c.args.symbols.now

pub returns-in-Semi-clause-read : goal.returns-in-Semi-clause-read
returns-in-Semi-clause-read c = read_as c.args.symbols.now c.args.atom (Semi) (Semi) c.in-Semi.is (semi_settled c.args.symbols.now)

pub returns-in-Semi-clause-value : goal.returns-in-Semi-clause-value
returns-in-Semi-clause-value c = sym (settled_from c.args.symbols.now c.args.atom (Semi) (read_as c.args.symbols.now c.args.atom (Semi) (Semi) c.in-Semi.is (semi_settled c.args.symbols.now)))

pub returns-in-Semi-clause-settled : goal.returns-in-Semi-clause-settled
returns-in-Semi-clause-settled c = semi_settled c.args.symbols.now

pub returns-in-Symbol-clause-read : goal.returns-in-Symbol-clause-read
returns-in-Symbol-clause-read c = read_as c.args.symbols.now c.args.atom (Symbol c.in-Symbol.sym) (c.settle_name.result) c.in-Symbol.is (c.settle_name.ensures.read)

pub returns-in-Symbol-clause-value : goal.returns-in-Symbol-clause-value
returns-in-Symbol-clause-value c = sym (settled_from c.args.symbols.now c.args.atom (c.settle_name.result) (read_as c.args.symbols.now c.args.atom (Symbol c.in-Symbol.sym) (c.settle_name.result) c.in-Symbol.is (c.settle_name.ensures.read)))

pub returns-in-DollarSymbol-clause-read : goal.returns-in-DollarSymbol-clause-read
returns-in-DollarSymbol-clause-read c = read_as c.args.symbols.now c.args.atom (DollarSymbol c.in-DollarSymbol.sym) (c.settle_name-in-DollarSymbol.result) c.in-DollarSymbol.is (c.settle_name-in-DollarSymbol.ensures.read)

pub returns-in-DollarSymbol-clause-value : goal.returns-in-DollarSymbol-clause-value
returns-in-DollarSymbol-clause-value c = sym (settled_from c.args.symbols.now c.args.atom (c.settle_name-in-DollarSymbol.result) (read_as c.args.symbols.now c.args.atom (DollarSymbol c.in-DollarSymbol.sym) (c.settle_name-in-DollarSymbol.result) c.in-DollarSymbol.is (c.settle_name-in-DollarSymbol.ensures.read)))
