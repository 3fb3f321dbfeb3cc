use Rattle.std.proofs.Common.{◌≤◌, length}
use Rattle.pd_web.specs.Changes.{IsSame, KeepsRoom}
use Rattle.pd_web.proofs.web.Web.reserve_ends.Given as goal

abbrev pub invariant-loop : goal.invariant-loop
invariant-loop l = record {
  same : IsSame l.fn.self l.self;
  kept : KeepsRoom l.fn.self l.self;
  far : l.counter ≤ length l.self.spare.items;
}
