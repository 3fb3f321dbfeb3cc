use Rattle.std.proofs.Common.{Some, position, bytes_eq, sym, ap, ◌∙◌}
use Rattle.pd_atom.proofs.NameLemmas.{position_named}
use Rattle.pd_atom.proofs.symbols.Symbols.find.Goals as goal

pub returns-in-Some-clause-named : goal.returns-in-Some-clause-named
returns-in-Some-clause-named c =
    let there = ap (position (bytes_eq c.args.name.now)) (sym c.self.view_is) ∙ sym c.place.ensures ∙ c.in-Some.is ∙ ap Some (sym c.symbol.ensures) in
    position_named c.args.self.now c.args.name.now c.symbol.result there
