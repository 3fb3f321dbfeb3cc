-- When the canvases that messages reach by a name lie near the root.
use Rattle.std.specs.Prelude.{ℕ, ◌≤◌, length}
use Rattle.std.specs.List.{AllByRecursion}
use Rattle.pd_name.specs.Rows.{owners_of}
use Rattle.pd_name.specs.declared.Class.TheVariants.{Receiver}
use Rattle.pd_bind.specs.declared.owners.Owner.{Owner}
use Rattle.pd_bind.specs.declared.owners.Owner.TheVariants as owner
use Rattle.pd_hearing.specs.Worlds.{Net}
use Rattle.pd_stack.specs.Tasks.{Task, Ask, owner_told}
use Rattle.pd_walk.specs.Acts.{path_in}

-- the path to a canvas has at most 255 numbers
abbrev pub IsNear : Net → ℕ → Type 0
IsNear net canvas = length (path_in net canvas) ≤ 255

abbrev pub IsNearOwner : Net → Owner → Type 0
IsNearOwner net (owner.Node node) = Unit {0}
IsNearOwner net (owner.Canvas canvas) = IsNear net canvas

-- each canvas that owns the name of a receiver is near
abbrev pub AreNear : Net → Type 0
AreNear net = (name : ℕ) → AllByRecursion (λ k. IsNearOwner net (owner_told net k)) (owners_of net.owners Receiver name)

-- a task asks no canvas but a near one
abbrev pub AsksNear : Net → Task → Type 0
AsksNear net (Ask depth canvas selector atoms) = IsNear net canvas
AsksNear net task = Unit {0}
