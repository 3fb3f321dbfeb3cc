use Rattle.std.proofs.Common.{◌+◌, ◌*◌, length}
use Rattle.pd_canvas.proofs.edits.+edit.Given as goal

abbrev pub decreases-edit_canvas : goal.decreases-edit_canvas
decreases-edit_canvas l = 2 * length l.path.now

abbrev pub decreases-edit_inside : goal.decreases-edit_inside
decreases-edit_inside l = 2 * length l.path.now + 1
