use Rattle.std.proofs.Common.{◌≡◌, ◌++◌, map, drop}
use Rattle.std.specs.Prelude.{option_map}
use Rattle.pd_doc.specs.Pieces.{piece, numbers_of}
use Rattle.pd_doc.proofs.fields.numbers.Given as goal

abbrev pub invariant-loop-lexeme : goal.invariant-loop-lexeme
invariant-loop-lexeme l =
    option_map (λ rest. l.numbers.items ++ rest) (numbers_of (map piece (drop l.lexeme-index l.lexemes))) ≡ numbers_of (map piece l.lexemes)
