use Rattle.std.proofs.Common.{ℕ, ◌+◌, slice_get}
use Rattle.pd_grove.specs.declared.ports.Side.TheVariants.{Outlets}
use Rattle.pd_web.specs.Changes.{hop_at}
use Rattle.pd_web.specs.Hops.{fan_keys}
use Rattle.pd_web.specs.Sockets.{end_under}
use Rattle.pd_web.specs.Wiring.{sink_at}
use Rattle.pd_web.proofs.HopLemmas.{fan_hop_after, fan_wire, key_listed}
use Rattle.pd_turning.proofs.NoteLemmas.{keys_back}
use Rattle.pd_turning.proofs.noting.key_behind.Goals as goal

pub fan_next-requires : goal.fan_next-requires
fan_next-requires c =
    let w = c.args.web.now in
    let m = c.args.wire in
    let h = hop_at m.key m.line.sink m.line.inlet in
    fan_wire w.book (end_under w.sockets.items Outlets m.line.source m.line.outlet) c.requires.place m.key c.laws.ensures
    (key_listed (λ (k : ℕ). slice_get w.spots.items (sink_at w.book k)) (fan_keys w m.line.source m.line.outlet) c.requires.place h c.requires.stands)

pub returns : goal.returns
returns c = λ i stands.
    let w = c.args.web.now in
    let m = c.args.wire in
    let h = hop_at m.key m.line.sink m.line.inlet in
    keys_back w (fan_keys w m.line.source m.line.outlet) c.fan_next.result (i + 1)
    (fan_hop_after (λ (k : ℕ). slice_get w.spots.items (sink_at w.book k)) w.book (end_under w.sockets.items Outlets m.line.source m.line.outlet) i h c.fan_next.result c.laws.ensures c.fan_next.ensures stands)
