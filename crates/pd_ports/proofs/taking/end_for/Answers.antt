use Rattle.std.proofs.Common.{◌-◌, sym, ◌∙◌}
use Rattle.pd_ports.proofs.TakeLemmas.{end_found}
use Rattle.pd_ports.proofs.taking.end_for.Goals as goal

pub returns-then-is_box_at : goal.returns-then-is_box_at
returns-then-is_box_at c = c.end_at.ensures ∙ sym (end_found c.args.old.now c.args.inner c.args.behind c.requires (sym c.is_box_at.ensures ∙ c.if-is_box_at.true))

pub returns-then-is_box_at-2 : goal.returns-then-is_box_at-2
returns-then-is_box_at-2 c =
    c.end_at-then-is_box_at-2.ensures ∙ sym (end_found c.args.old.now c.args.inner (c.args.behind - 1) c.requires (sym c.is_box_at-then-behind-gt0.ensures ∙ c.if-is_box_at-2.true))

pub returns-then-is_box_at-3 : goal.returns-then-is_box_at-3
returns-then-is_box_at-3 c =
    c.end_at-then-is_box_at-3.ensures ∙ sym (end_found c.args.old.now c.args.inner (c.args.behind - 2) c.requires (sym c.is_box_at-then-behind-gt1.ensures ∙ c.if-is_box_at-3.true))
