use Rattle.std.proofs.Common.{◌≡◌, map, drop}
use Rattle.std.specs.List.{list_any}
use Rattle.pd_doc.specs.Pieces.{piece, is_long}
use Rattle.pd_doc.proofs.lexemes.has_long.Given as goal

abbrev pub invariant-loop-lexeme : goal.invariant-loop-lexeme
invariant-loop-lexeme l = list_any is_long (map piece (drop l.lexeme-index l.lexemes)) ≡ list_any is_long (map piece l.lexemes)
