use Rattle.std.proofs.Common.{◌≡◌, ◌<◌, ℕ, length}
use Rattle.slab.specs.Slab.{get}
use Rattle.pd_grove.specs.declared.ports.Side.{Side}
use Rattle.pd_web.specs.Jacks.{jacks_at as jacks_of_box, made_in}
use Rattle.pd_web.specs.Sockets.{AreFew, loose_ports, ports_at, made_at}
use Rattle.pd_web.proofs.sockets.lay_sockets.Given as goal

abbrev pub invariant-loop-key : goal.invariant-loop-key
invariant-loop-key l = record {
  far : length l.sockets.items ≡ l.key;
  told : (side : Side) (k : ℕ) → k < l.key → ports_at l.sockets.items side k ≡ loose_ports (jacks_of_box side l.grove k);
  made : (k : ℕ) → k < l.key → made_at l.sockets.items k ≡ made_in (get l.grove.nodes k);
  few : AreFew l.sockets.items;
}
