use Rattle.std.proofs.Common.{◌≡◌, ◌++◌, map, drop}
use Rattle.pd_atom.specs.declared.Atom.TheVariants.{Number}
use Rattle.pd_doc.specs.Writing.{atom_piece, spaced}
use Rattle.pd_doc.proofs.lines.push_numbers.Given as goal

abbrev pub invariant-loop-number : goal.invariant-loop-number
invariant-loop-number l =
    l.out.items ++ spaced (map (λ v. atom_piece l.symbols (Number v)) (drop l.number-index l.numbers))
    ≡ l.fn.out.items ++ spaced (map (λ v. atom_piece l.symbols (Number v)) l.numbers)
