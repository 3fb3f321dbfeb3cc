use Rattle.std.proofs.Common.{ℕ, slice_get, sym, ◌∙◌}
use Rattle.pd_grove.specs.declared.ports.Side.TheVariants.{Outlets}
use Rattle.pd_web.specs.Sockets.{end_under}
use Rattle.pd_web.specs.Wiring.{sink_at}
use Rattle.pd_web.proofs.HopLemmas.{fan_after_wire, fan_hop_after, fan_hop_lost}
use Rattle.pd_web.proofs.web.Web.fan_next.Goals as goal

pub returns-then-not-has_wire : goal.returns-then-not-has_wire
returns-then-not-has_wire c = λ node port i h.
    let w = c.args.self.now in
    absurd (fan_hop_lost (λ (k : ℕ). slice_get w.spots.items (sink_at w.book k)) w.book (end_under w.sockets.items Outlets node port) i c.args.hop c.laws.ensures
    (sym c.has_wire.ensures ∙ c.if-not-has_wire.true) h)

pub ahead-requires : goal.ahead-requires
ahead-requires c =
    fan_after_wire c.args.self.now.book c.args.hop.key c.fan_after-key.result c.laws.ensures (sym c.has_wire.ensures ∙ c.if-not-has_wire.false) c.fan_after-key.ensures

pub returns : goal.returns
returns c = λ node port i h.
    let w = c.args.self.now in
    c.ahead.ensures
    ∙ fan_hop_after (λ (k : ℕ). slice_get w.spots.items (sink_at w.book k)) w.book (end_under w.sockets.items Outlets node port) i c.args.hop c.fan_after-key.result c.laws.ensures
    c.fan_after-key.ensures h
