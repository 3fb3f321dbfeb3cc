-- When a block passes over nothing.
use Rattle.std.specs.Prelude.{◌≡◌, ℕ, ◌≤◌, ◌^◌, true, length, Some, None, IfSome, IsSome}
use Rattle.pd_object.specs.declared.kinds.Kind.{Kind}
use Rattle.pd_turn.specs.declared.sorts.Manner.{Manner}
use Rattle.pd_turn.specs.declared.sorts.Manner.TheVariants.{Own, Beside, Table}
use Rattle.pd_grove.specs.declared.ports.Side.TheVariants.{Outlets}
use Rattle.pd_web.specs.declared.web.Web.{Web}
use Rattle.pd_web.specs.Hops.{jack_told, signal_in, feed_hops}
use Rattle.pd_patch.specs.Fed.{AreFed}
use Rattle.pd_patch.specs.Values.{Blocks, block_at}
use Rattle.pd_block.specs.Nets.{Net, Sound, kind_at}
use Rattle.pd_block.specs.Blocks.{owner_of}
use Rattle.pd_channels_law.specs.Channels.{HasFewChannels}
use Rattle.pd_sized.specs.Sizes.{Finds, IsWhole}
use Rattle.pd_sized.specs.Kinds.{KeepsOfKind}

-- each outlet that carries signals has a block
abbrev pub HasBlocks : Web → Blocks → Type 0
HasBlocks web blocks = (k o : ℕ) → signal_in (jack_told web Outlets k o) ≡ true → IsSome (block_at blocks k o)

-- All boxes keep what is of their kinds, with its sizes, and have keys below 2^32; blocks have 64 values, and each outlet that carries signals has
-- one; no inlet has more wires than a patch may have; who looks for a box by its name finds what it looks for in the first owner of that name,
-- where there is one; and a `dac~` has at most 1,024 channels.
pub record IsReady (net : Net) (s : Sound) : Type 0 where
  pub kinds : KeepsOfKind (kind_at net) s.states
  pub whole : IsWhole s
  pub owners : (k : Kind) (o : ℕ) → owner_of net.owners k ≡ Some o → Finds k (s.states o)
  pub channels : (k : ℕ) → IfSome (kind_at net k) HasFewChannels
  pub keys : (k : ℕ) → 2 ^ 32 ≤ k → s.states k ≡ None
  pub fed : AreFed net.web
  pub blocks : HasBlocks net.web s.blocks

-- no inlet has more wires than a patch may have
abbrev pub HasFewFeeds : Web → Type 0
HasFewFeeds web = (node inlet : ℕ) → length (feed_hops web node inlet) ≤ 65536

-- a box that runs so has a row of its own: it is no `dac~` and no port
abbrev pub HasRow : Manner → Type 0
HasRow Own = Unit {0}
HasRow Beside = Unit {0}
HasRow Table = Unit {0}
HasRow m = ⊥
