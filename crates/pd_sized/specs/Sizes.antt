-- When what boxes keep has the sizes with which it was made, and which boxes look at which others.
use Rattle.std.specs.Prelude.{◌≡◌, ℕ, ℤ, ◌≤◌, ◌^◌, true, List, length, Option, Some, IfSome, IsSome}
use Rattle.std.specs.List.{AllByRecursion}
use Rattle.slab.specs.Slab.{get}
use Rattle.pd_clock.specs.declared.times.Rate.{Rate}
use Rattle.pd_object.specs.declared.kinds.Kind.{Kind}
use Rattle.pd_object.specs.declared.kinds.Kind.TheVariants as kind
use Rattle.pd_object.specs.declared.kinds.Signal.{Signal}
use Rattle.pd_object.specs.declared.kinds.Signal.TheVariants as signal
use Rattle.pd_kind.specs.declared.states.State.{State}
use Rattle.pd_kind.specs.declared.states.State.TheVariants as state
use Rattle.pd_kind.specs.States.{size_of}
use Rattle.pd_grove.specs.declared.nodes.Node.{Node}
use Rattle.pd_patch.specs.declared.patch.Patch.{Patch}
use Rattle.pd_turn.specs.Rows.{is_sized}
use Rattle.pd_block.specs.Nets.{Sound}

-- A delay line has room for a block, and its next place is in it; a bus and a sum have 64 values.
abbrev pub HasSizes : State → Type 0
HasSizes s = is_sized s ≡ true

-- all boxes
abbrev pub HaveSizes : (ℕ → Option State) → Type 0
HaveSizes states = (k : ℕ) → IfSome (states k) HasSizes

-- the table or the delay line of no box counts more than 2^32 values
abbrev pub HasSmallBoxes : Patch → Rate → Type 0
HasSmallBoxes p rate = (k : ℕ) (n : Node) → get p.grove.nodes k ≡ Some n → size_of n.kind rate ≤ 2 ^ 32

-- what a box of a kind looks at: a `receive~` at a `send~`, a `throw~` at a `catch~`, and a `delread~` at a `delwrite~`
abbrev pub LooksAtSignal : Signal → State → Type 0
LooksAtSignal (signal.Receive spelling name) (state.SignalSend held block) = Unit {0}
LooksAtSignal (signal.Throw name) (state.Catch sum) = Unit {0}
LooksAtSignal (signal.Delread name time) (state.Delwrite held values next ran) = Unit {0}
LooksAtSignal g s = ⊥

abbrev pub LooksAt : Kind → State → Type 0
LooksAt (kind.Signal g) s = LooksAtSignal g s
LooksAt k s = ⊥

-- it finds that: another box keeps something, and this is what it looks at
abbrev pub Finds : Kind → Option State → Type 0
Finds k o = IsSome o × IfSome o (LooksAt k)

-- a block has 64 values
abbrev pub IsBlock : List ℤ → Type 0
IsBlock block = length block ≡ 64

-- all boxes, and the blocks of their outlets
pub record IsWhole (s : Sound) : Type 0 where
  pub states : HaveSizes s.states
  pub blocks : AllByRecursion (AllByRecursion IsBlock) s.blocks

-- the kind of the other box: a `send~` for a `receive~`, a `catch~` for a `throw~`, and a `delwrite~` for a `delread~`
abbrev pub ServesSignal : Signal → Signal → Type 0
ServesSignal (signal.Receive spelling name) (signal.Send word sent) = Unit {0}
ServesSignal (signal.Throw name) (signal.Catch caught) = Unit {0}
ServesSignal (signal.Delread name time) (signal.Delwrite written size) = Unit {0}
ServesSignal g h = ⊥

abbrev pub Serves : Kind → Kind → Type 0
Serves (kind.Signal g) (kind.Signal h) = ServesSignal g h
Serves k j = ⊥
