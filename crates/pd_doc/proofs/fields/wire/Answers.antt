use Rattle.std.proofs.Common.{sym, arith}
use Rattle.pd_doc.proofs.PieceLemmas.{wire_short, wire_long}
use Rattle.pd_doc.proofs.fields.wire.Goals as goal

pub returns-in_default : goal.returns-in_default
returns-in_default c = sym (wire_short c.args.lexemes.now (omega arith))

pub returns-in_default-2 : goal.returns-in_default-2
returns-in_default-2 c = sym (wire_long c.args.lexemes.now (omega arith))
