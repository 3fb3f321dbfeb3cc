use Rattle.std.proofs.Common.{◌≡◌, ℕ, Some, slice_get, sym, ap, ◌∙◌, arith}
use Rattle.pd_web.specs.Wiring.{sink_at}
use Rattle.pd_web.specs.Hops.{fan_keys}
use Rattle.pd_web.proofs.HopLemmas.{key_listed}
use Rattle.pd_web.proofs.web.Web.wire_key.Goals as goal

pub returns : goal.returns
returns c =
    let w = c.args.self.now in
    let e : c.loop.counter ≡ c.args.place = omega arith in
    ap (λ (x : ℕ). Some x) c.key.ensures
    ∙ sym (key_listed (λ (k : ℕ). slice_get w.spots.items (sink_at w.book k)) (fan_keys w c.args.node c.args.outlet) c.loop.counter c.loop.hop c.loop.invariant)
    ∙ ap (slice_get (fan_keys w c.args.node c.args.outlet)) e
