use Rattle.std.proofs.Common.{None, Some, subst}
use Rattle.memchr.specs.Find.{IsFirstByte, is_byte}
use Rattle.pd_lex.proofs.Laws.{tail_is}
use Rattle.pd_lex.proofs.Runs.{no_escape, lone_backslash, escape_at}
use Rattle.pd_lex.proofs.escapes.escape.Goals as goal

pub returns-in_err-found : goal.returns-in_err-found
returns-in_err-found c =
    rw c.from_residual.ensures
    (no_escape c.args.token.now c.args.at
    (subst (λ s. IsFirstByte (is_byte 92) s None) (tail_is c.args.token.now c.args.at) (c.in_err-found.ensures)))

pub returns-then-at-found : goal.returns-then-at-found
returns-then-at-found c =
    lone_backslash c.args.token.now c.args.at c.in_ok-found.found c.requires
    (subst (λ s. IsFirstByte (is_byte 92) s (Some c.in_ok-found.found)) (tail_is c.args.token.now c.args.at) (c.in_ok-found.ensures))
    c.if-at-found.true

pub returns : goal.returns
returns c =
    escape_at c.args.token.now c.args.at c.in_ok-found.found c.requires
    (subst (λ s. IsFirstByte (is_byte 92) s (Some c.in_ok-found.found)) (tail_is c.args.token.now c.args.at) (c.in_ok-found.ensures))
    c.if-at-found.false
