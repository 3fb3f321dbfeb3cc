use Rattle.std.proofs.Common.{◌≡◌, ◌+◌, ◌≤◌, [], length, drop}
use Rattle.pd_kind.specs.Forming.{atoms_with_selector}
use Rattle.pd_kind.specs.Said.{said_by}
use Rattle.pd_kind.specs.declared.messages.Deed.TheVariants.{Nothing}
use Rattle.pd_list.specs.Slots.{unpacked}
use Rattle.pd_list.proofs.slots.hear_unpack.Given as goal

abbrev pub invariant-loop-i : goal.invariant-loop-i
invariant-loop-i l = record {
  slots : l.i ≤ length l.slots;
  atoms : l.i ≤ length (atoms_with_selector l.selector l.atoms);
  sends : (said_by l.out).sends ≡ unpacked l.i (drop l.i l.slots) (drop l.i (atoms_with_selector l.selector l.atoms));
  rows : length l.out.rows + l.i ≤ 1024;
  room : length l.out.atoms + l.i ≤ 1024;
  deed : l.out.deed ≡ Nothing;
  notices : l.out.notices ≡ [];
}

abbrev pub decreases-loop-i : goal.decreases-loop-i
decreases-loop-i l = l.i
