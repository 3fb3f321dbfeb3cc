use Rattle.std.proofs.Common.{◌≡◌, ◌-◌, ◌≤◌, ◌++◌, length}
use Rattle.slab.specs.Slab.{get}
use Rattle.pd_patch.specs.Paths.{outward, around}
use Rattle.pd_patch.proofs.patch.Patch.path_of.Given as goal

abbrev pub invariant-loop-level : goal.invariant-loop-level
invariant-loop-level l = record {
  few : length l.path.items ≤ l._level;
  same : l.path.items ++ outward (get l.self.grove.nodes) l.self.grove.boards l.self.numbers.items (256 - l._level) l.here
      ≡ outward (get l.self.grove.nodes) l.self.grove.boards l.self.numbers.items 256 (around (get l.self.grove.nodes) l.self.grove.boards l.self.numbers.items l.canvas);
}
