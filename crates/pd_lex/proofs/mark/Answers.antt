use Rattle.std.proofs.Common.{None, Some, subst}
use Rattle.memchr.specs.Find.{IsFirstByte, is_byte2}
use Rattle.pd_lex.proofs.Laws.{tail_is}
use Rattle.pd_lex.proofs.Marks.{no_mark, mark_at}
use Rattle.pd_lex.proofs.mark.Goals as goal

pub returns-in_err-found : goal.returns-in_err-found
returns-in_err-found c =
    rw c.from_residual.ensures
    (no_mark c.args.bytes.now c.args.at
    (subst (λ s. IsFirstByte (is_byte2 59 92) s None) (tail_is c.args.bytes.now c.args.at) (c.in_err-found.ensures)))

pub returns : goal.returns
returns c =
    mark_at c.args.bytes.now c.args.at c.in_ok-found.found c.requires
    (subst (λ s. IsFirstByte (is_byte2 59 92) s (Some c.in_ok-found.found)) (tail_is c.args.bytes.now c.args.at) (c.in_ok-found.ensures))
