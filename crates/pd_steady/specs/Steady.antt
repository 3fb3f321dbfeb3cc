-- When a stage of a run is steady, and a command in order at it.
use Rattle.std.specs.Prelude.{ℕ, ◌<◌, ◌≤◌, ◌-◌, IsSome}
use Rattle.pd_atom.specs.Names.{Names}
use Rattle.pd_grove.specs.declared.ports.Side.TheVariants.{Outlets}
use Rattle.pd_web.specs.declared.web.Web.{Web}
use Rattle.pd_web.specs.Hops.{ports_told}
use Rattle.pd_patch.specs.Values.{Blocks, block_at, block_count}
use Rattle.pd_script.specs.declared.commands.Command.{Command}
use Rattle.pd_script.specs.declared.commands.Command.TheVariants as command
use Rattle.pd_guards.specs.Order.{IsName, AreAtoms}
use Rattle.pd_guards.specs.Near.{AreNear}
use Rattle.pd_guards.specs.Worlds.{IsInOrder}
use Rattle.pd_guards.specs.Sounds.{IsSounding}
use Rattle.pd_ends_law.specs.Ends.{AreOpen}
use Rattle.pd_sound_law.specs.Ready.{IsReady}
use Rattle.pd_stage.specs.Stages.{Stage, kept_at}
use Rattle.pd_stage.specs.Times.{block_units, block_net, sound_at}
use Rattle.pd_stage.specs.Trees.{HasTree, HasOwners}

-- a box has a block for each outlet, where one of them carries signals
abbrev pub HasRows : Web → Blocks → Type 0
HasRows web blocks = (k o : ℕ) → o < block_count (ports_told web Outlets k) → IsSome (block_at blocks k o)

-- The time is at most so much; the canvases that own names are near; the patch is in order at that time; the values of signals are in
-- their range, all is ready for the next block, and boxes have their blocks; this ends no earlier than the first one, and no `vline~` has run a
-- block that ends after its start; and a tree stands, and under each name its owners.
pub record IsSteady (most : ℕ) (s : Stage) : Type 0 where
  pub time : s.time ≤ most
  pub near : AreNear s.net
  pub order : IsInOrder s.net s.time (kept_at s)
  pub values : IsSounding (sound_at s)
  pub ready : IsReady (block_net s) (sound_at s)
  pub rows : HasRows s.net.web s.net.blocks
  pub block : block_units ≤ s.block_end
  pub ends : AreOpen (s.block_end - block_units) s.states
  pub tree : HasTree s
  pub owners : HasOwners s tree.patch tree.tree

-- the name and the atoms of a message that is sent are of the table, and its numbers in their range
abbrev pub IsCommand : Names → Command → Type 0
IsCommand names (command.Send name atoms) = IsName names name × AreAtoms names atoms
IsCommand names c = Unit {0}
