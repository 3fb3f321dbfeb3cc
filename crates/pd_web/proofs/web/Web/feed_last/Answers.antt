use Rattle.std.proofs.Common.{ℕ, ◌-◌, Option, Some, map, length, slice_get, sym, ap, ◌∙◌}
use Rattle.std.specs.Prelude.{option_map}
use Rattle.pd_wire.specs.Book.{feeds_of}
use Rattle.pd_grove.specs.declared.ports.Side.TheVariants.{Inlets}
use Rattle.pd_web.specs.Hops.{hop_from, feeds_under}
use Rattle.pd_web.proofs.HopLemmas.{feed_wire}
use Rattle.pd_web.proofs.BehindLemmas.{hop_last}
use Rattle.pd_web.proofs.web.Web.feed_last.Goals as goal

pub feed_last-key-requires : goal.feed_last-key-requires
feed_last-key-requires c = (c.args.self.now.tied.placed (record { node = c.args.node; side = Inlets; port = c.args.inlet }) c.in_ok-end.end (sym c.in_ok-end.ensures)).live

pub back-requires : goal.back-requires
back-requires c = λ k h.
    let n = length (feeds_of c.args.self.now.book c.in_ok-end.end) - 1 in
    feed_wire c.args.self.now.book (Some c.in_ok-end.end) n k c.laws.ensures (sym c.feed_last-key.ensures ∙ h)

pub returns : goal.returns
returns c =
    let w = c.args.self.now in
    c.back.ensures ∙ ap (option_map (hop_from w)) c.feed_last-key.ensures ∙ hop_last (hop_from w) (feeds_of w.book c.in_ok-end.end)
    ∙ ap (λ (o : Option ℕ). slice_get (map (hop_from w) (feeds_under w.book o)) (length (map (hop_from w) (feeds_under w.book o)) - 1)) c.in_ok-end.ensures
