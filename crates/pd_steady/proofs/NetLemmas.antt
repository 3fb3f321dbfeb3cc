-- A stage tells what a patch tells, but for its clocks and blocks.
use Rattle.std.proofs.Common.{◌≡◌, ap}
use Rattle.pd_patch.specs.declared.patch.Patch.{Patch}
use Rattle.pd_patch.specs.Values.{Blocks}
use Rattle.pd_hearing.specs.Worlds.{Net}
use Rattle.pd_block.specs.Nets as block
use Rattle.pd_stage.specs.Stages.{Stage}
use Rattle.pd_stage.specs.Times.{block_net}

-- what messages leave as it is, with these blocks
abbrev pub with_blocks : block.Net → Blocks → Net
with_blocks n blocks = record {
  nodes = n.nodes;
  boards = n.boards;
  root = n.root;
  web = n.web;
  links = n.links;
  owners = n.owners;
  orders = n.orders;
  numbers = n.numbers;
  blocks = blocks;
  rate = n.rate;
  end = n.end;
}

abbrev pub told_with : Patch → Blocks → Net
told_with p blocks = with_blocks (block.net_of p) blocks

-- but for its clocks and blocks, a stage has what a patch has
abbrev pub TellsOf : Patch → Stage → Type 0
TellsOf p s = block_net s ≡ block.with_clocks (block.net_of p) s.clocks

pub same_net : (p : Patch) (s : Stage) → TellsOf p s → s.net ≡ told_with p s.net.blocks
same_net p s h = ap (λ (n : block.Net). with_blocks n s.net.blocks) h
