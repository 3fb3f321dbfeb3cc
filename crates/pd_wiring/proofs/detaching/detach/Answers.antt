use Rattle.std.proofs.Common.{◌≡◌, true, false, refl, sym, ap, ◌∙◌, subst, arith}
use Rattle.std.specs.Prelude.{is_some}
use Rattle.pd_links.proofs.LinkLemmas.{same_room}
use Rattle.pd_web.specs.declared.web.Web.{Web}
use Rattle.pd_web.specs.Changes.{CutsWire}
use Rattle.pd_wiring.proofs.WebLemmas.{HasLaws, line_here, line_inside}
use Rattle.pd_wiring.specs.Changes.{CanRewire, StaysButWire}
use Rattle.pd_patch.specs.Telling.{order_in}
use Rattle.pd_wiring.proofs.PlaceLemmas.{places_none}
use Rattle.pd_wiring.proofs.EditLemmas.{orders_linked, stays_built, sink_sounds, linked_from, linked_into, detach_wired, detach_signal, detach_control}
use Rattle.pd_wiring.proofs.detaching.detach.Goals as goal

pub cut-requires : goal.cut-requires
cut-requires g c =
    let w = c.args.patch.now.web in
    let laws : HasLaws w = record { fans = c.laws.ensures.fans; once = c.laws.ensures.once } in
    ap is_some (line_here w c.args.key c.args.line laws c.requires.wire)

pub unlink-requires-clause-from : goal.unlink-requires-clause-from
unlink-requires-clause-from g c =
    let p = c.args.patch.now in
    let laws : HasLaws p.web = record { fans = c.laws.ensures.fans; once = c.laws.ensures.once } in
    linked_from p c.cut.new.self c.args.line c.args.key laws c.requires.wire c.cut.ensures c.requires.runs (sym c.is_signal_line-signal.ensures ∙ c.if-not-signal.false)

pub unlink-requires-clause-into : goal.unlink-requires-clause-into
unlink-requires-clause-into g c =
    let p = c.args.patch.now in
    let laws : HasLaws p.web = record { fans = c.laws.ensures.fans; once = c.laws.ensures.once } in
    linked_into p c.cut.new.self c.args.line c.args.key laws c.requires.wire c.cut.ensures c.requires.runs (sym c.is_signal_line-signal.ensures ∙ c.if-not-signal.false)

pub unlink-requires-clause-wired : goal.unlink-requires-clause-wired
unlink-requires-clause-wired g c =
    let p = c.args.patch.now in
    let laws : HasLaws p.web = record { fans = c.laws.ensures.fans; once = c.laws.ensures.once } in
    λ ls h. detach_wired p c.cut.new.self c.args.line c.args.key laws c.requires.wire c.cut.ensures c.requires.runs (sym c.is_signal_line-signal.ensures ∙ c.if-not-signal.false) ls h

pub unlink-requires-clause-together : goal.unlink-requires-clause-together
unlink-requires-clause-together g c =
    let p = c.args.patch.now in
    line_inside p.grove p.web c.args.key c.args.line c.requires.runs.inside c.requires.wire

pub unlink-requires-clause-signal : goal.unlink-requires-clause-signal
unlink-requires-clause-signal g c =
    let p = c.args.patch.now in
    sink_sounds p c.args.line c.requires.runs (sym c.is_signal_line-signal.ensures ∙ c.if-not-signal.false)

pub unlink-requires-clause-orders : goal.unlink-requires-clause-orders
unlink-requires-clause-orders g c = orders_linked c.args.patch.now c.requires.runs

pub returns-then-not-signal-clause-rest : goal.returns-then-not-signal-clause-rest
returns-then-not-signal-clause-rest g c = record { grove = refl; names = refl; timers = refl; numbers = refl; values = refl; rate = refl; present = refl; orders = λ k differ. refl; places = λ k. places_none (order_in c.args.patch.now.orders.items k) }

pub returns-then-not-signal-clause-rewires : goal.returns-then-not-signal-clause-rewires
returns-then-not-signal-clause-rewires g c =
    let p = c.args.patch.now in
    let laws : HasLaws p.web = record { fans = c.laws.ensures.fans; once = c.laws.ensures.once } in
    detach_control p c.cut.new.self c.args.line c.args.key laws c.requires.wire c.cut.ensures (record p { web = c.cut.new.self }) (sym c.is_signal_line-signal.ensures ∙ c.if-not-signal.true)
    (record { grove = refl; names = refl; timers = refl; numbers = refl; values = refl; rate = refl; present = refl; orders = λ k differ. refl; places = λ k. places_none (order_in c.args.patch.now.orders.items k) }) refl refl refl c.requires.runs

pub returns-then-not-signal-clause-built : goal.returns-then-not-signal-clause-built
returns-then-not-signal-clause-built g c =
    let p = c.args.patch.now in
    let laws : HasLaws p.web = record { fans = c.laws.ensures.fans; once = c.laws.ensures.once } in
    let S : StaysButWire p (record p { web = c.cut.new.self }) c.args.line.source =
    record { grove = refl; names = refl; timers = refl; numbers = refl; values = refl; rate = refl; present = refl; orders = λ k differ. refl; places = λ k. places_none (order_in c.args.patch.now.orders.items k) } in
    stays_built p (record p { web = c.cut.new.self }) c.cut.new.self c.args.line.source S refl c.cut.ensures.kept
    (λ (b : CanRewire p). detach_control p c.cut.new.self c.args.line c.args.key laws c.requires.wire c.cut.ensures (record p { web = c.cut.new.self }) (sym c.is_signal_line-signal.ensures ∙ c.if-not-signal.true) S refl refl refl b)

pub returns-then-not-signal-clause-room : goal.returns-then-not-signal-clause-room
returns-then-not-signal-clause-room g c = same_room c.args.patch.now.links

pub returns-then-not-signal-clause-looks : goal.returns-then-not-signal-clause-looks
returns-then-not-signal-clause-looks g c = λ k lies. omega arith

pub returns-clause-cuts : goal.returns-clause-cuts
returns-clause-cuts g c = subst (λ (x : Web). CutsWire c.args.patch.now.web x c.args.key) (sym c.unlink.ensures.web) c.cut.ensures

pub returns-clause-rest : goal.returns-clause-rest
returns-clause-rest g c =
    let r = c.unlink.ensures.rest in
    record { grove = r.grove; names = r.names; timers = r.timers; numbers = r.numbers; values = r.values; rate = r.rate; present = r.present; orders = r.orders; places = r.places }

pub returns-clause-rewires : goal.returns-clause-rewires
returns-clause-rewires g c =
    let p = c.args.patch.now in
    let laws : HasLaws p.web = record { fans = c.laws.ensures.fans; once = c.laws.ensures.once } in
    let r = c.unlink.ensures.rest in
    detach_signal p c.cut.new.self c.args.line c.args.key laws c.requires.wire c.cut.ensures c.unlink.new.patch (sym c.is_signal_line-signal.ensures ∙ c.if-not-signal.false)
    (record { grove = r.grove; names = r.names; timers = r.timers; numbers = r.numbers; values = r.values; rate = r.rate; present = r.present; orders = r.orders; places = r.places })
    c.unlink.ensures.web c.unlink.ensures.links c.unlink.ensures.orders c.requires.runs

pub returns-clause-built : goal.returns-clause-built
returns-clause-built g c =
    let p = c.args.patch.now in
    let laws : HasLaws p.web = record { fans = c.laws.ensures.fans; once = c.laws.ensures.once } in
    let r = c.unlink.ensures.rest in
    let S : StaysButWire p c.unlink.new.patch c.args.line.source = record { grove = r.grove; names = r.names; timers = r.timers; numbers = r.numbers; values = r.values; rate = r.rate; present = r.present; orders = r.orders; places = r.places } in
    stays_built p c.unlink.new.patch c.cut.new.self c.args.line.source S c.unlink.ensures.web c.cut.ensures.kept
    (λ (b : CanRewire p). detach_signal p c.cut.new.self c.args.line c.args.key laws c.requires.wire c.cut.ensures c.unlink.new.patch (sym c.is_signal_line-signal.ensures ∙ c.if-not-signal.false) S c.unlink.ensures.web c.unlink.ensures.links c.unlink.ensures.orders b)

pub returns-clause-room : goal.returns-clause-room
returns-clause-room g c = c.unlink.ensures.room

pub returns-clause-control : goal.returns-clause-control
returns-clause-control g c =
    let t = sym c.is_signal_line-signal.ensures ∙ c.if-not-signal.false in
    λ f. absurd (contrary (sym t ∙ f)) where
      contrary : true ≡ false → ⊥
      contrary q = cc
