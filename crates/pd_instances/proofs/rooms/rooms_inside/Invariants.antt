use Rattle.std.proofs.Common.{◌≡◌, ◌<◌, ◌≤◌, ℕ, Some, length, take}
use Rattle.std.specs.Prelude.{slice_get}
use Rattle.pd_links.specs.declared.opening.LinkRoom.{LinkRoom}
use Rattle.pd_instances.specs.Needs.{count_from, count_to, IsLinkRoom}
use Rattle.pd_instances.proofs.rooms.rooms_inside.Given as goal

abbrev pub invariant-loop-wire : goal.invariant-loop-wire
invariant-loop-wire l = record {
  from_all : length l.from.items ≡ l.boxes;
  into_all : length l.into.items ≡ l.boxes;
  from : (n : ℕ) → n < l.boxes → slice_get l.from.items n ≡ Some (count_from (take l.wire-index l.wires) n);
  into : (n : ℕ) → n < l.boxes → slice_get l.into.items n ≡ Some (count_to (take l.wire-index l.wires) n);
}

abbrev pub invariant-loop-i : goal.invariant-loop-i
invariant-loop-i l = record {
  all : length l.rooms.items ≡ l.i;
  each : (n : ℕ) (room : LinkRoom) → slice_get l.rooms.items n ≡ Some room → IsLinkRoom (count_from l.wires n) (count_to l.wires n) room;
}
