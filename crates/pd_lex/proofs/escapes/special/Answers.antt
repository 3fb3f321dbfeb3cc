use Rattle.std.proofs.Common.{sym, ap, ◌∙◌}
use Rattle.std.specs.List.{position}
use Rattle.pd_lex.specs.Text.{is_special}
use Rattle.pd_lex.proofs.Laws.{tail_is}
use Rattle.pd_lex.proofs.Runs.{no_special, special_at}
use Rattle.pd_lex.proofs.escapes.special.Goals as goal

pub returns-in_err-found : goal.returns-in_err-found
returns-in_err-found c =
    rw c.from_residual.ensures
    (no_special c.args.name.now c.args.at (ap (position is_special) (sym (tail_is c.args.name.now c.args.at)) ∙ sym (c.in_err-found.ensures)))

pub returns : goal.returns
returns c =
    special_at c.args.name.now c.args.at c.in_ok-found.found c.requires
    (ap (position is_special) (sym (tail_is c.args.name.now c.args.at)) ∙ sym (c.in_ok-found.ensures))
