use Rattle.std.proofs.Common.{ℕ, Option, Some, map, slice_get, sym, ap, ◌∙◌}
use Rattle.std.specs.Prelude.{option_map}
use Rattle.std.proofs.lemmas.Option.{slice_get-map}
use Rattle.pd_wire.specs.Book.{feeds_of}
use Rattle.pd_grove.specs.declared.ports.Side.TheVariants.{Inlets}
use Rattle.pd_web.specs.Hops.{hop_from, feeds_under}
use Rattle.pd_web.proofs.HopLemmas.{feed_wire}
use Rattle.pd_web.proofs.web.Web.feed_first.Goals as goal

pub feed_first-key-requires : goal.feed_first-key-requires
feed_first-key-requires c = (c.args.self.now.tied.placed (record { node = c.args.node; side = Inlets; port = c.args.inlet }) c.in_ok-end.end (sym c.in_ok-end.ensures)).live

pub back-requires : goal.back-requires
back-requires c = λ k h. feed_wire c.args.self.now.book (Some c.in_ok-end.end) 0 k c.laws.ensures (sym c.feed_first-key.ensures ∙ h)

pub returns : goal.returns
returns c =
    let w = c.args.self.now in
    c.back.ensures ∙ ap (option_map (hop_from w)) c.feed_first-key.ensures ∙ sym (slice_get-map (hop_from w) (feeds_of w.book c.in_ok-end.end) 0)
    ∙ ap (λ (o : Option ℕ). slice_get (map (hop_from w) (feeds_under w.book o)) 0) c.in_ok-end.ensures
