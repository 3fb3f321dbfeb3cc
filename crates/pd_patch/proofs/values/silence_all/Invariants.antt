use Rattle.std.proofs.Common.{◌≡◌, ◌++◌, take, drop, length, map}
use Rattle.pd_kind.specs.States.{silent_block}
use Rattle.pd_patch.proofs.values.silence_all.Given as goal

abbrev pub invariant-loop-i : goal.invariant-loop-i
invariant-loop-i l = record {
  out : take l.i l.blocks.items ++ map (λ _. silent_block) (drop l.i l.blocks.items) ≡ map (λ _. silent_block) l.initial.blocks.items;
  len : length l.blocks.items ≡ length l.initial.blocks.items;
}
