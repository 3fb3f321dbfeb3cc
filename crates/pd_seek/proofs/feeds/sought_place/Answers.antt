use Rattle.std.proofs.Common.{ℕ, Some, sym, ap, ◌∙◌, subst}
use Rattle.std.proofs.lemmas.Option.{none-some, same_Some}
use Rattle.pd_web.specs.Hops.{feed_keys, feed_hops, hop_from}
use Rattle.pd_seek.specs.Places.{comes_later}
use Rattle.pd_seek.proofs.PlaceLemmas.{Sought, up_to, from_kept, sought_from, sought_at, sought_step, place_found_at}
use Rattle.pd_seek.proofs.feeds.sought_place.Goals as goal

pub loop-last-init : goal.loop-last-init
loop-last-init c =
    let w = c.args.web.now in
    let l = c.args.line in
    let keys = feed_keys w l.sink l.inlet in
    sought_at c.args.labels.now l keys (hop_from w) _ c.feed_last-last.result _ (from_kept w) (c.laws.ensures.once_fed l.sink l.inlet)
    (sought_from c.args.labels.now l keys (hop_from w) c.feed_last-last.result c.feed_last-last.ensures)

pub loop-last-preserved : goal.loop-last-preserved
loop-last-preserved c =
    let w = c.args.web.now in
    let l = c.args.line in
    let labels = c.args.labels.now in
    let keys = feed_keys w l.sink l.inlet in
    let before = c.feed_before-last.result in
    let step =
    sought_step labels l keys (hop_from w) c.loop-last.next c.loop-last.last c.in-Some.hop before (from_kept w) (c.laws.ensures.once_fed l.sink l.inlet) c.loop-last.invariant c.in-Some.is
    (sym c.is_later.ensures ∙ c.if-not-is_later.false) (record { at_front = c.feed_before-last.ensures.at_front l.sink l.inlet; behind = c.feed_before-last.ensures.behind l.sink l.inlet })
    in
    let P : ℕ → Type 0 = λ k. Sought labels l keys (feed_hops w l.sink l.inlet) (Some k) before (up_to keys before) in
    subst P (sym c.key.ensures) step.0

pub loop-last-smaller : goal.loop-last-smaller
loop-last-smaller c =
    let w = c.args.web.now in
    let l = c.args.line in
    let before = c.feed_before-last.result in
    let step =
    sought_step c.args.labels.now l (feed_keys w l.sink l.inlet) (hop_from w) c.loop-last.next c.loop-last.last c.in-Some.hop before (from_kept w) (c.laws.ensures.once_fed l.sink l.inlet) c.loop-last.invariant c.in-Some.is
    (sym c.is_later.ensures ∙ c.if-not-is_later.false) (record { at_front = c.feed_before-last.ensures.at_front l.sink l.inlet; behind = c.feed_before-last.ensures.behind l.sink l.inlet })
    in
    step.1

pub returns-then-not-is_later : goal.returns-then-not-is_later
returns-then-not-is_later c =
    let w = c.args.web.now in
    let l = c.args.line in
    let keys = feed_keys w l.sink l.inlet in
    let place = up_to keys c.loop-last.last in (
      place,
      c.loop-last.invariant.stands,
      place_found_at c.args.labels.now l keys (hop_from w) c.loop-last.next c.loop-last.last place c.loop-last.invariant (λ h is.
          ap (comes_later c.args.labels.now l) (same_Some h c.in-Some.hop (sym is ∙ c.in-Some.is)) ∙ sym c.is_later.ensures ∙ c.if-not-is_later.true),
    )

pub returns : goal.returns
returns c =
    let w = c.args.web.now in
    let l = c.args.line in
    let keys = feed_keys w l.sink l.inlet in
    let place = up_to keys c.loop-last.last in (
      place,
      c.loop-last.invariant.stands,
      place_found_at c.args.labels.now l keys (hop_from w) c.loop-last.next c.loop-last.last place c.loop-last.invariant (λ h is.
          absurd (none-some h (sym c.in_default.is ∙ is))),
    )
