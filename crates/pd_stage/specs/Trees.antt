-- The tree that stands at a stage, and the owners of names.
use Rattle.std.specs.Prelude.{◌≡◌, ◌≤◌, ℕ, None}
use Rattle.slab.specs.Slab.{get}
use Rattle.pd_atom.specs.Names.{Names, Extends}
use Rattle.pd_name.specs.declared.Class.{Class}
use Rattle.pd_name.specs.Rows.{owners_of}
use Rattle.pd_tree.specs.Trees.{Tree, weight}
use Rattle.pd_grove.specs.Owning.{AreOwn}
use Rattle.pd_grove.specs.Standing.{GroveStands}
use Rattle.pd_grove.specs.TextOrder.{deep}
use Rattle.pd_bind.specs.Owning.{owners_in, root_owner}
use Rattle.pd_web.specs.Changes.{wires_told}
use Rattle.pd_patch.specs.declared.patch.Patch.{Patch}
use Rattle.pd_adding.specs.Counts.{AreWithin}
use Rattle.pd_alike_law.specs.Alike.{OwnAlike}
use Rattle.pd_stage.specs.Stages.{Stage}
use Rattle.pd_stage.specs.Times.{IsStageOf}

-- A patch in which a tree stands is as it is at a stage, but for its wires, its clocks and what its boxes keep. With the root at most 256 canvases lie
-- in one another, and there are as many boxes and wires as are counted, within the limits of a patch.
pub record HasTree (s : Stage) : Type 0 where
  pub patch : Patch
  pub tree : Tree
  pub stands : GroveStands patch.grove tree.sheet tree.boxes
  pub of : IsStageOf patch s
  pub shallow : deep tree.boxes ≤ 255
  pub boxes : s.base.counts.boxes ≡ weight tree.boxes
  pub wires : s.base.counts.wires ≡ wires_told s.net.web
  pub within : AreWithin s.base.counts
  pub own : AreOwn (get patch.grove.nodes) (get patch.grove.boards)
  pub apart : get patch.grove.nodes root_owner ≡ None

-- Under each name stand its owners, in text order, by a table of names from which the stage's goes on; and each box owns the same in each table that
-- goes on from it.
pub record HasOwners (s : Stage) (p : Patch) (t : Tree) : Type 0 where
  pub table : Names
  pub goes_on : Extends table s.names
  pub owners : (class : Class) (name : ℕ) → owners_of p.names class name ≡ owners_in table s.file p.grove class name
  pub alike : (more : Names) → Extends table more → OwnAlike table more s.file t.boxes
