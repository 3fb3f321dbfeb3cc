use Rattle.std.proofs.Common.{◌≡◌, ◌+◌, ◌≤◌, [], length, take, drop}
use Rattle.pd_kind.specs.Said.{said_by}
use Rattle.pd_kind.specs.declared.messages.Deed.TheVariants.{Nothing}
use Rattle.pd_list.specs.Outlets.{trigger_sends}
use Rattle.pd_list.proofs.outlets.hear_trigger.Given as goal

abbrev pub invariant-loop-i : goal.invariant-loop-i
invariant-loop-i l = record {
  within : l.i ≤ length l.outlets;
  sends : (said_by l.out).sends ≡ trigger_sends l.i (drop l.i l.outlets) l.selector l.atoms;
  held : take (length l.atoms) l.out.atoms ≡ l.atoms;
  rows : length l.out.rows + l.i ≤ length l.outlets;
  room : length l.out.atoms + l.i ≤ length l.atoms + length l.outlets;
  deed : l.out.deed ≡ Nothing;
  notices : l.out.notices ≡ [];
}

abbrev pub decreases-loop-i : goal.decreases-loop-i
decreases-loop-i l = l.i
