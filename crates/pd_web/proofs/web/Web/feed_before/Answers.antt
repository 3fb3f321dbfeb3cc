use Rattle.std.proofs.Common.{ℕ, ◌+◌, slice_get, sym, ◌∙◌}
use Rattle.pd_grove.specs.declared.ports.Side.TheVariants.{Inlets}
use Rattle.pd_web.specs.Sockets.{end_under}
use Rattle.pd_web.specs.Wiring.{source_at}
use Rattle.pd_web.proofs.HopLemmas.{feed_hop_lost}
use Rattle.pd_web.proofs.BehindLemmas.{before_wire, hop_front, hop_behind}
use Rattle.pd_web.proofs.web.Web.feed_before.Goals as goal

pub returns-then-not-has_wire-clause-behind : goal.returns-then-not-has_wire-clause-behind
returns-then-not-has_wire-clause-behind c = λ node port i h.
    let w = c.args.self.now in
    absurd (feed_hop_lost (λ (k : ℕ). slice_get w.spots.items (source_at w.book k)) w.book (end_under w.sockets.items Inlets node port) (i + 1) c.args.hop c.laws.ensures
    (sym c.has_wire.ensures ∙ c.if-not-has_wire.true) h)

pub back-requires : goal.back-requires
back-requires c =
    before_wire c.args.self.now.book c.args.hop.key c.feed_behind-key.result c.laws.ensures (sym c.has_wire.ensures ∙ c.if-not-has_wire.false) c.feed_behind-key.ensures

pub returns-clause-at_front : goal.returns-clause-at_front
returns-clause-at_front c = λ node port h.
    let w = c.args.self.now in
    c.back.ensures
    ∙ hop_front (λ (k : ℕ). slice_get w.spots.items (source_at w.book k)) w.book (end_under w.sockets.items Inlets node port) c.args.hop c.feed_behind-key.result c.laws.ensures
    c.feed_behind-key.ensures h

pub returns-clause-behind : goal.returns-clause-behind
returns-clause-behind c = λ node port i h.
    let w = c.args.self.now in
    c.back.ensures
    ∙ hop_behind (λ (k : ℕ). slice_get w.spots.items (source_at w.book k)) w.book (end_under w.sockets.items Inlets node port) i c.args.hop c.feed_behind-key.result c.laws.ensures
    c.feed_behind-key.ensures h
