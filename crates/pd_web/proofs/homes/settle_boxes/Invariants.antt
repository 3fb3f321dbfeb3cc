use Rattle.std.proofs.Common.{◌≡◌, length}
use Rattle.pd_web.specs.Homes.{AreTrue, AreKnown}
use Rattle.pd_web.proofs.homes.settle_boxes.Given as goal

abbrev pub invariant-loop-key : goal.invariant-loop-key
invariant-loop-key l = record {
  far : length l.homes ≡ length l.sockets;
  told : AreTrue l.sockets l.homes;
  known : AreKnown l.sockets l.homes l.key;
}
