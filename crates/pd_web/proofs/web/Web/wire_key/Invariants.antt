use Rattle.std.proofs.Common.{◌≡◌, Some, slice_get}
use Rattle.pd_web.specs.Hops.{fan_hops}
use Rattle.pd_web.proofs.web.Web.wire_key.Given as goal

abbrev pub invariant-loop : goal.invariant-loop
invariant-loop l = slice_get (fan_hops l.self l.node l.outlet) l.counter ≡ Some l.hop
