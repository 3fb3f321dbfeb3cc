use Rattle.std.proofs.Common.{◌+◌, ◌*◌, length}
use Rattle.pd_canvas.proofs.turns.+turn.Given as goal

abbrev pub decreases-turn_canvas : goal.decreases-turn_canvas
decreases-turn_canvas l = 2 * length l.path.now

abbrev pub decreases-turn_inside : goal.decreases-turn_inside
decreases-turn_inside l = 2 * length l.path.now + 1
