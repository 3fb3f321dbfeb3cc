use Rattle.std.proofs.Common.{◌≡◌, drop}
use Rattle.pd_patch.specs.Values.{blocks_told}
use Rattle.pd_block.specs.Blocks.{dac_from}
use Rattle.pd_block.proofs.ports.add_channels.Given as goal

abbrev pub invariant-loop-inlet : goal.invariant-loop-inlet
invariant-loop-inlet l =
    dac_from l.patch.web (blocks_told l.patch) l.node l.state l.inlet (drop l.inlet l.channels) l.out ≡ dac_from l.patch.web (blocks_told l.patch) l.node l.state 0 l.channels l.fn.out
