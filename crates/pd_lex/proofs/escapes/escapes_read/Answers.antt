use Rattle.pd_lex.proofs.EscapeLemmas.{escaped_units, unescaped-escaped}
use Rattle.pd_lex.proofs.escapes.escapes_read.Goals as goal

pub returns : goal.returns
returns c = record { units = escaped_units; name = unescaped-escaped }
