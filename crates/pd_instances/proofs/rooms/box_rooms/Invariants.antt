use Rattle.std.proofs.Common.{take}
use Rattle.pd_web.specs.Changes.{IsSame, KeepsRoom}
use Rattle.pd_instances.specs.Needs.{AreRoomsFor}
use Rattle.pd_instances.proofs.rooms.box_rooms.Given as goal

abbrev pub invariant-loop-i : goal.invariant-loop-i
invariant-loop-i l = record {
  same : IsSame l.fn.web l.web;
  kept : KeepsRoom l.fn.web l.web;
  rooms : AreRoomsFor (take l.i l.needs.items) l.rooms.items;
}
