use Rattle.std.proofs.Common.{◌≡◌, ◌+◌, ◌-◌, ◌*◌, take}
use Rattle.pd_block.specs.Nets.{net_of, sound_of, chain_at, stuck_at}
use Rattle.pd_block.specs.Blocks.{played, each, silenced, ran_one, ran_canvas}
use Rattle.pd_block.proofs.canvases.+canvases.Given as goal

abbrev pub decreases-run_canvas : goal.decreases-run_canvas
decreases-run_canvas l = 3 * l.levels

abbrev pub decreases-run_place : goal.decreases-run_place
decreases-run_place l = 3 * l.levels + 2

abbrev pub decreases-run_box : goal.decreases-run_box
decreases-run_box l = 3 * l.levels + 1

abbrev pub invariant-run_canvas-loop-place : goal.invariant-run_canvas-loop-place
invariant-run_canvas-loop-place l = record {
  net : net_of l.patch ≡ net_of l.fn.patch;
  played : played (sound_of l.patch) l.out ≡
      each (ran_one (net_of l.fn.patch) l.start (ran_canvas (net_of l.fn.patch) l.start (l.levels - 1)))
      (played (each silenced (sound_of l.fn.patch) (stuck_at (net_of l.fn.patch) l.canvas)) l.fn.out)
      (take l.place (chain_at (net_of l.fn.patch) l.canvas));
}
