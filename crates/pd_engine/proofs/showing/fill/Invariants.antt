use Rattle.std.proofs.Common.{◌≡◌, ◌≤◌, length, take}
use Rattle.std.specs.Prelude.{map, vec_capacity}
use Rattle.pd_patch.specs.Telling.{number_in}
use Rattle.pd_engine.proofs.showing.fill.Given as goal

abbrev pub invariant-loop-key : goal.invariant-loop-key
invariant-loop-key l = record {
  items : l.numbers.items ≡ map (number_in l.patch.numbers.items) (take l.key-index l.told);
  few : length l.told ≤ 16384;
  told : l.told ≡ take 16384 l.boxes;
  room : 16384 ≤ vec_capacity l.numbers;
}
