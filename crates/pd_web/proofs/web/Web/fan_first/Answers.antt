use Rattle.std.proofs.Common.{ℕ, Option, Some, map, slice_get, sym, ap, ◌∙◌}
use Rattle.std.specs.Prelude.{option_map}
use Rattle.std.proofs.lemmas.Option.{slice_get-map}
use Rattle.pd_wire.specs.Book.{fan_of}
use Rattle.pd_grove.specs.declared.ports.Side.TheVariants.{Outlets}
use Rattle.pd_web.specs.Hops.{hop_to, fan_under}
use Rattle.pd_web.proofs.HopLemmas.{fan_wire}
use Rattle.pd_web.proofs.web.Web.fan_first.Goals as goal

pub fan_first-key-requires : goal.fan_first-key-requires
fan_first-key-requires c = (c.args.self.now.tied.placed (record { node = c.args.node; side = Outlets; port = c.args.outlet }) c.in_ok-end.end (sym c.in_ok-end.ensures)).live

pub ahead-requires : goal.ahead-requires
ahead-requires c = λ k h. fan_wire c.args.self.now.book (Some c.in_ok-end.end) 0 k c.laws.ensures (sym c.fan_first-key.ensures ∙ h)

pub returns : goal.returns
returns c =
    let w = c.args.self.now in
    c.ahead.ensures ∙ ap (option_map (hop_to w)) c.fan_first-key.ensures ∙ sym (slice_get-map (hop_to w) (fan_of w.book c.in_ok-end.end) 0)
    ∙ ap (λ (o : Option ℕ). slice_get (map (hop_to w) (fan_under w.book o)) 0) c.in_ok-end.ensures
