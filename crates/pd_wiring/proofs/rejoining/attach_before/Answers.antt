use Rattle.std.proofs.Common.{arith, ◌≡◌, ℕ, List, length, true, false, refl, sym, ◌∙◌, subst}
use Rattle.pd_links.proofs.LinkLemmas.{one_unused}
use Rattle.pd_web.specs.declared.web.Web.{Web}
use Rattle.pd_web.specs.Hops.{fan_keys, feed_hops}
use Rattle.pd_web.specs.Changes.{Joins}
use Rattle.pd_seek.specs.Places.{IsPlace}
use Rattle.pd_wiring.specs.Changes.{CanRewire, StaysButWire}
use Rattle.pd_patch.specs.Telling.{order_in}
use Rattle.pd_wiring.proofs.PlaceLemmas.{places_none}
use Rattle.pd_wiring.proofs.EditLemmas.{orders_linked, stays_built, was_signal, sink_sounds, attach_wired, attach_signal, attach_control}
use Rattle.pd_wiring.proofs.rejoining.attach_before.Goals as goal

pub rejoin-key-requires-clause-feed_next : goal.rejoin-key-requires-clause-feed_next
rejoin-key-requires-clause-feed_next g c = (c.feed_place-next.ensures.place.0, c.feed_place-next.ensures.place.1)

pub link-requires-clause-wired : goal.link-requires-clause-wired
link-requires-clause-wired g c =
    let p = c.args.patch.now in
    let at = c.feed_place-next.ensures.place in
    let n = c.requires.before in
    let J = c.rejoin-key.ensures n.0 at.0 n.1 at.1 in
    λ ls h. attach_wired p c.rejoin-key.new.self c.args.line c.rejoin-key.result n.0 at.0 c.requires.route J c.requires.together
    c.requires.runs (sym c.is_signal_line.ensures ∙ c.if-is_signal_line.true) ls h

pub link-requires-clause-signal : goal.link-requires-clause-signal
link-requires-clause-signal g c =
    let p = c.args.patch.now in
    let at = c.feed_place-next.ensures.place in
    let n = c.requires.before in
    let J = c.rejoin-key.ensures n.0 at.0 n.1 at.1 in
    sink_sounds p c.args.line c.requires.runs
    (sym (was_signal p c.rejoin-key.new.self c.args.line c.rejoin-key.result n.0 at.0 c.requires.route J c.requires.together)
    ∙ sym c.is_signal_line.ensures ∙ c.if-is_signal_line.true)

pub link-requires-clause-orders : goal.link-requires-clause-orders
link-requires-clause-orders g c = orders_linked c.args.patch.now c.requires.runs

pub returns-then-is_signal_line-clause-joins : goal.returns-then-is_signal_line-clause-joins
returns-then-is_signal_line-clause-joins g c = λ fan_place stands.
    let p = c.args.patch.now in
    let at = c.feed_place-next.ensures.place in
    let l = c.args.line in (
      at.0,
      subst (λ (ns : List ℕ). IsPlace ns l (feed_hops p.web l.sink l.inlet) at.0) c.as_slice.ensures.value at.2,
      subst (λ (x : Web). Joins p.web x c.rejoin-key.result l fan_place at.0) (sym c.link.ensures.web) (c.rejoin-key.ensures fan_place at.0 stands at.1),
    )

pub returns-then-is_signal_line-clause-rest : goal.returns-then-is_signal_line-clause-rest
returns-then-is_signal_line-clause-rest g c =
    let r = c.link.ensures.rest in
    record { grove = r.grove; names = r.names; timers = r.timers; numbers = r.numbers; values = r.values; rate = r.rate; present = r.present; orders = r.orders; places = r.places }

pub returns-then-is_signal_line-clause-rewires : goal.returns-then-is_signal_line-clause-rewires
returns-then-is_signal_line-clause-rewires g c =
    let p = c.args.patch.now in
    let at = c.feed_place-next.ensures.place in
    let n = c.requires.before in
    let J = c.rejoin-key.ensures n.0 at.0 n.1 at.1 in
    let r = c.link.ensures.rest in
    attach_signal p c.rejoin-key.new.self c.args.line c.rejoin-key.result n.0 at.0 c.requires.route J c.requires.together c.link.new.patch
    (sym c.is_signal_line.ensures ∙ c.if-is_signal_line.true)
    (record { grove = r.grove; names = r.names; timers = r.timers; numbers = r.numbers; values = r.values; rate = r.rate; present = r.present; orders = r.orders; places = r.places })
    c.link.ensures.web c.link.ensures.links c.link.ensures.orders c.requires.runs

pub returns-then-is_signal_line-clause-built : goal.returns-then-is_signal_line-clause-built
returns-then-is_signal_line-clause-built g c =
    let p = c.args.patch.now in
    let at = c.feed_place-next.ensures.place in
    let n = c.requires.before in
    let J = c.rejoin-key.ensures n.0 at.0 n.1 at.1 in
    let r = c.link.ensures.rest in
    let S : StaysButWire p c.link.new.patch c.args.line.source = record { grove = r.grove; names = r.names; timers = r.timers; numbers = r.numbers; values = r.values; rate = r.rate; present = r.present; orders = r.orders; places = r.places } in
    stays_built p c.link.new.patch c.rejoin-key.new.self c.args.line.source S c.link.ensures.web J.kept
    (λ (b : CanRewire p). attach_signal p c.rejoin-key.new.self c.args.line c.rejoin-key.result n.0 at.0 c.requires.route J c.requires.together c.link.new.patch
    (sym c.is_signal_line.ensures ∙ c.if-is_signal_line.true) S c.link.ensures.web c.link.ensures.links c.link.ensures.orders b)

pub returns-then-is_signal_line-clause-left : goal.returns-then-is_signal_line-clause-left
returns-then-is_signal_line-clause-left g c = c.link.ensures.room

pub returns-then-is_signal_line-clause-control : goal.returns-then-is_signal_line-clause-control
returns-then-is_signal_line-clause-control g c =
    let p = c.args.patch.now in
    let at = c.feed_place-next.ensures.place in
    let n = c.requires.before in
    let J = c.rejoin-key.ensures n.0 at.0 n.1 at.1 in
    let t =
    sym (was_signal p c.rejoin-key.new.self c.args.line c.rejoin-key.result n.0 at.0 c.requires.route J c.requires.together)
    ∙ sym c.is_signal_line.ensures ∙ c.if-is_signal_line.true in
    λ f. absurd (contrary (sym t ∙ f)) where
      contrary : true ≡ false → ⊥
      contrary q = cc

pub returns-clause-joins : goal.returns-clause-joins
returns-clause-joins g c = λ fan_place stands.
    let p = c.args.patch.now in
    let at = c.feed_place-next.ensures.place in
    let l = c.args.line in
    (at.0, subst (λ (ns : List ℕ). IsPlace ns l (feed_hops p.web l.sink l.inlet) at.0) c.as_slice.ensures.value at.2, c.rejoin-key.ensures fan_place at.0 stands at.1)

pub returns-clause-rest : goal.returns-clause-rest
returns-clause-rest g c = record { grove = refl; names = refl; timers = refl; numbers = refl; values = refl; rate = refl; present = refl; orders = λ k differ. refl; places = λ k. places_none (order_in c.args.patch.now.orders.items k) }

pub returns-clause-rewires : goal.returns-clause-rewires
returns-clause-rewires g c =
    let p = c.args.patch.now in
    let at = c.feed_place-next.ensures.place in
    let n = c.requires.before in
    let J = c.rejoin-key.ensures n.0 at.0 n.1 at.1 in
    attach_control p c.rejoin-key.new.self c.args.line c.rejoin-key.result n.0 at.0 c.requires.route J c.requires.together
    (record p { web = c.rejoin-key.new.self }) (sym c.is_signal_line.ensures ∙ c.if-is_signal_line.false)
    (record { grove = refl; names = refl; timers = refl; numbers = refl; values = refl; rate = refl; present = refl; orders = λ k differ. refl; places = λ k. places_none (order_in c.args.patch.now.orders.items k) }) refl refl refl c.requires.runs

pub returns-clause-built : goal.returns-clause-built
returns-clause-built g c =
    let p = c.args.patch.now in
    let at = c.feed_place-next.ensures.place in
    let n = c.requires.before in
    let J = c.rejoin-key.ensures n.0 at.0 n.1 at.1 in
    let S : StaysButWire p (record p { web = c.rejoin-key.new.self }) c.args.line.source =
    record { grove = refl; names = refl; timers = refl; numbers = refl; values = refl; rate = refl; present = refl; orders = λ k differ. refl; places = λ k. places_none (order_in c.args.patch.now.orders.items k) } in
    stays_built p (record p { web = c.rejoin-key.new.self }) c.rejoin-key.new.self c.args.line.source S refl J.kept
    (λ (b : CanRewire p). attach_control p c.rejoin-key.new.self c.args.line c.rejoin-key.result n.0 at.0 c.requires.route J c.requires.together
    (record p { web = c.rejoin-key.new.self }) (sym c.is_signal_line.ensures ∙ c.if-is_signal_line.false) S refl refl refl b)

pub returns-clause-left : goal.returns-clause-left
returns-clause-left g c = one_unused c.args.patch.now.links c.args.line.source c.args.line.sink

pub returns-clause-looks : goal.returns-clause-looks
returns-clause-looks g c = λ k lies. omega arith
