use Rattle.std.proofs.Common.{◌≡◌, replicate}
use Rattle.pd_kind.specs.States.{silent_block}
use Rattle.pd_boxes.proofs.rows.silent_blocks.Given as goal

abbrev pub invariant-loop : goal.invariant-loop
invariant-loop l = l.blocks.items ≡ replicate l.counter silent_block
