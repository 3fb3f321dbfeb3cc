use Rattle.std.proofs.Common.{◌≡◌, drop}
use Rattle.std.specs.List.{list_all}
use Rattle.pd_lex.specs.Text.{is_space}
use Rattle.pd_doc.proofs.reading.is_blank.Given as goal

abbrev pub invariant-loop-b : goal.invariant-loop-b
invariant-loop-b l = list_all is_space (drop l.b-index l.bytes) ≡ list_all is_space l.bytes
