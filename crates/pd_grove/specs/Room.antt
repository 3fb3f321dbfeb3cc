-- Room that is set aside for boxes to come.
use Rattle.std.specs.Prelude.{◌≡◌, ◌<◌, ◌≤◌, ℕ, length, option_map}
use Rattle.slab.specs.Slab.{get}
use Rattle.pd_label.specs.Labels.{label_of}
use Rattle.pd_grove.specs.declared.grove.Grove.{Grove}
use Rattle.pd_grove.specs.Standing.{board_seen, board_room}
use Rattle.pd_grove.specs.Planting.{HaveRoom}

-- so many boxes and canvases, of which one box comes into the canvas c, take no memory
pub record HasPlace (g : Grove) (c n : ℕ) : Type 0 where
  pub room : HaveRoom g.nodes g.boards n
  pub labels_reach : g.nodes.capacity ≤ length g.labels
  pub own_room : 1 ≤ board_room (get g.boards c)

-- the grove is as it was, room apart
pub record IsSameButRoom (old new : Grove) : Type 0 where
  pub nodes : (k : ℕ) → get new.nodes k ≡ get old.nodes k
  pub boards : (c : ℕ) → option_map board_seen (get new.boards c) ≡ option_map board_seen (get old.boards c)
  pub longer : length old.labels ≤ length new.labels
  pub labels : (k : ℕ) → k < length old.labels → label_of new.labels k ≡ label_of old.labels k
  pub root : new.root ≡ old.root
