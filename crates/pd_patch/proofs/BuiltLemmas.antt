-- What lasts of a patch that has just grown.
use Rattle.std.proofs.Common.{◌≡◌, ℕ, zero, suc, pos, List, ◌∷◌, length, Some, ap, refl, ◌∙◌}
use Rattle.std.specs.Prelude.{replicate, option_map}
use Rattle.std.proofs.lemmas.List.{length-replicate}
use Rattle.pd_atom.specs.Names.{Names}
use Rattle.pd_clock.specs.declared.times.Rate.{Rate}
use Rattle.pd_kind.specs.States.{silent_block}
use Rattle.pd_grove.specs.declared.grove.Grove.{Grove}
use Rattle.pd_grove.specs.declared.ports.Side.TheVariants.{Outlets}
use Rattle.pd_web.specs.declared.web.Web.{Web}
use Rattle.pd_web.specs.Hops.{ports_told}
use Rattle.pd_patch.specs.declared.patch.Patch.{Patch}
use Rattle.pd_patch.specs.Values.{AreSilent, Blocks, block_count, blocks_told}
use Rattle.pd_patch.specs.Built.{HaveBlocks, block_sizes, IsBuilt, IsAtStart}
use Rattle.pd_patch.specs.Grown.{IsFresh}
use Rattle.pd_patch.proofs.LinkingLemmas.{laid_inside}

silent_count : length silent_block ≡ 64
unfolding silent_block
silent_count = length-replicate 64 (pos 0)

silent_sizes : (n : ℕ) → block_sizes (replicate n silent_block) ≡ replicate n 64
silent_sizes zero = refl
silent_sizes (suc n) =
    ap (λ (size : ℕ). size ∷ block_sizes (replicate n silent_block)) silent_count ∙ ap (λ (sizes : List ℕ). 64 ∷ sizes) (silent_sizes n)

-- silent blocks are blocks
silent_blocks : (g : Grove) (w : Web) (blocks : Blocks) → AreSilent g w blocks → HaveBlocks g w blocks
silent_blocks g w blocks h k live =
    ap (option_map block_sizes) (h k live) ∙ ap (λ (sizes : List ℕ). Some sizes) (silent_sizes (block_count (ports_told w Outlets k)))

pub is_built : (p : Patch) (names : Names) (file : List ℕ) (rate : Rate) → IsFresh p names file rate → IsBuilt p names file rate
is_built p names file rate fresh = record {
  own = fresh.own;
  keys = fresh.keys;
  ports = record {
    ports = fresh.wires.ports;
    made = fresh.wires.made;
    homes = fresh.wires.homes;
    homes_found = fresh.wires.homes_found;
  };
  owners = fresh.owners;
  apart = fresh.apart;
  inside = laid_inside p.grove p.web fresh.wires;
  linked = fresh.linked;
  orders = fresh.orders;
  numbers = fresh.numbers;
  blocks = silent_blocks p.grove p.web (blocks_told p) fresh.blocks;
  no_others = fresh.no_others;
  room = fresh.room;
  same_rate = fresh.same_rate;
}

pub is_at_start : (p : Patch) (names : Names) (file : List ℕ) (rate : Rate) → IsFresh p names file rate → IsAtStart p rate
is_at_start p names file rate fresh = record { clocks = fresh.clocks; states = fresh.states; blocks = fresh.blocks }
