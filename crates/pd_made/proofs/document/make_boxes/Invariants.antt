use Rattle.std.proofs.Common.{◌≡◌}
use Rattle.pd_canvas.specs.Views.{entries_of}
use Rattle.pd_made.specs.Documents.{made_boxes}
use Rattle.pd_made.proofs.document.make_boxes.Given as goal

abbrev pub invariant-loop-voice : goal.invariant-loop-voice
invariant-loop-voice l = entries_of l.boxes.items ≡ made_boxes l.words l.voice
