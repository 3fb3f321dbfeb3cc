use Rattle.std.proofs.Common.{ℕ, slice_get, sym, ◌∙◌}
use Rattle.pd_grove.specs.declared.ports.Side.TheVariants.{Inlets}
use Rattle.pd_web.specs.Sockets.{end_under}
use Rattle.pd_web.specs.Wiring.{source_at}
use Rattle.pd_web.proofs.HopLemmas.{feed_after_wire, feed_hop_after, feed_hop_lost}
use Rattle.pd_web.proofs.web.Web.feed_next.Goals as goal

pub returns-then-not-has_wire : goal.returns-then-not-has_wire
returns-then-not-has_wire c = λ node port i h.
    let w = c.args.self.now in
    absurd (feed_hop_lost (λ (k : ℕ). slice_get w.spots.items (source_at w.book k)) w.book (end_under w.sockets.items Inlets node port) i c.args.hop c.laws.ensures
    (sym c.has_wire.ensures ∙ c.if-not-has_wire.true) h)

pub back-requires : goal.back-requires
back-requires c =
    feed_after_wire c.args.self.now.book c.args.hop.key c.feed_after-key.result c.laws.ensures (sym c.has_wire.ensures ∙ c.if-not-has_wire.false) c.feed_after-key.ensures

pub returns : goal.returns
returns c = λ node port i h.
    let w = c.args.self.now in
    c.back.ensures
    ∙ feed_hop_after (λ (k : ℕ). slice_get w.spots.items (source_at w.book k)) w.book (end_under w.sockets.items Inlets node port) i c.args.hop c.feed_after-key.result c.laws.ensures
    c.feed_after-key.ensures h
