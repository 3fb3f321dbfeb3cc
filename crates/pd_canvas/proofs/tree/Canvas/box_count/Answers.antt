use Rattle.std.proofs.Common.{length, sym, ap, ◌∙◌}
use Rattle.std.proofs.lemmas.List.{length-map}
use Rattle.pd_canvas.specs.Views.{entry_of}
use Rattle.pd_canvas.proofs.TreeLemmas.{entries_seen}
use Rattle.pd_canvas.proofs.tree.Canvas.box_count.Goals as goal

pub returns : goal.returns
returns c =
    c.len.ensures ∙ (sym (length-map c.self.inside.boxes.items.items entry_of)
    ∙ sym (ap length (entries_seen c.self.inside c.args.self.now c.self.view_is)))
