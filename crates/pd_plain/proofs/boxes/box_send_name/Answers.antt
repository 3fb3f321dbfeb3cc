use Rattle.std.proofs.Common.{◌∙◌, sym}
use Rattle.pd_plain.proofs.NameLemmas.{name_known}
use Rattle.pd_plain.proofs.boxes.box_send_name.Goals as goal

pub is_called-requires : goal.is_called-requires
is_called-requires c = name_known c.args.symbols.now c.args.text.now 6 c.in-Some.name c.requires (sym c.argument_name_at.ensures ∙ c.in-Some.is)
