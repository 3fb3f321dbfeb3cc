-- A patch that was just made has its sizes, and each block of an outlet has 64 values.
use Rattle.std.proofs.Common.{◌≡◌, ◌≤◌, ◌^◌, ℕ, ℤ, List, replicate, slice_get, Option, Some, None, IfSome, IsSome, option_and_then, refl, sym, subst, arith}
use Rattle.std.specs.List.{AllByRecursion}
use Rattle.slab.specs.Slab.{get}
use Rattle.pd_clock.specs.declared.times.Rate.{Rate}
use Rattle.pd_atom.specs.Names.{Names}
use Rattle.pd_kind.specs.States.{silent_block, size_of}
use Rattle.pd_tree.specs.Trees.{Tree}
use Rattle.pd_growth.specs.Steps.{Step}
use Rattle.pd_grove.specs.declared.nodes.Node.{Node}
use Rattle.pd_grove.specs.declared.ports.Side.TheVariants.{Outlets}
use Rattle.pd_grove.specs.Standing.{node_seen}
use Rattle.pd_grove.specs.States.{NodesFresh}
use Rattle.pd_web.specs.Hops.{ports_told}
use Rattle.pd_patch.specs.declared.patch.Patch.{Patch}
use Rattle.pd_patch.specs.Grown.{IsTree, IsFresh}
use Rattle.pd_patch.specs.Sounds.{sound_of as tree_sound}
use Rattle.pd_patch.specs.Values.{AreSilent, HasNoOthers, block_count, blocks_told}
use Rattle.pd_block.specs.Nets.{sound_of}
use Rattle.pd_guards.proofs.FactLemmas.{all-from}
use Rattle.pd_guards.proofs.PatchLemmas.{cell_size}
use Rattle.pd_guards.proofs.SignalLemmas.{all-same}
use Rattle.pd_sized.specs.Sizes.{HasSmallBoxes, IsBlock, IsWhole}
use Rattle.pd_sized.proofs.StartLemmas.{silent_count, grown_sized}

-- the blocks of a box are silent, and where there is no box there are none
no_row : (own : List (List ℤ)) → ((i : ℕ) → slice_get own i ≡ None) → AllByRecursion IsBlock own
no_row own h = all-from IsBlock own (λ i. subst (λ (x : Option (List ℤ)). IfSome x IsBlock) (sym (h i)) tt)

row_whole : (o : Option (List (List ℤ))) (node : Option Node) (n : ℕ) → (IsSome node → o ≡ Some (replicate n silent_block))
    → ((i : ℕ) → node ≡ None → option_and_then (λ (own : List (List ℤ)). slice_get own i) o ≡ None) → IfSome o (AllByRecursion IsBlock)
row_whole None _ n h g = tt
row_whole (Some own) (Some x) n h g = subst (λ (y : Option (List (List ℤ))). IfSome y (AllByRecursion IsBlock)) (sym (h refl)) (all-same IsBlock n silent_block silent_count)
row_whole (Some own) None n h g = no_row own (λ i. g i refl)

blocks_whole : (p : Patch) → AreSilent p.grove p.web (blocks_told p) → HasNoOthers p.grove (blocks_told p) → AllByRecursion (AllByRecursion IsBlock) (blocks_told p)
blocks_whole p silent no_others =
    all-from (AllByRecursion IsBlock) (blocks_told p) (λ k. row_whole (slice_get (blocks_told p) k) (get p.grove.nodes k) (block_count (ports_told p.web Outlets k)) (silent k) (no_others k))

patch_whole : (p : Patch) (rate : Rate) (now : ℕ) → NodesFresh rate now (get p.grove.nodes) → HasSmallBoxes p rate → AreSilent p.grove p.web (blocks_told p) → HasNoOthers p.grove (blocks_told p) → IsWhole (sound_of p)
patch_whole p rate now fresh small silent no_others = record { states = grown_sized p rate now fresh small; blocks = blocks_whole p silent no_others }

below : (a b : ℕ) → a ≤ b → b ≤ 16777216 → a ≤ 2 ^ 32
below a b l m = omega arith

small_boxes : (p : Patch) (names : Names) (rate : Rate) (s : Step Tree) → IsTree p names rate s → HasSmallBoxes p rate
small_boxes p names rate s t k n at = below (size_of n.kind rate) (tree_sound rate t.tree.boxes) (cell_size rate t.tree.boxes (node_seen n).cell (t.of_tree k n at)) t.few_values

pub grown_whole : (p : Patch) (names : Names) (file : List ℕ) (rate : Rate) (s : Step Tree) → IsTree p names rate s → IsFresh p names file rate → IsWhole (sound_of p)
grown_whole p names file rate s t f = patch_whole p rate 0 f.states (small_boxes p names rate s t) f.blocks f.no_others
