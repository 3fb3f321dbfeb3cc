use Rattle.std.proofs.Common.{length, refl, sym, ◌∙◌, subst}
use Rattle.std.proofs.lemmas.Option.{same_Some, slice_get_read}
use Rattle.pd_misfits.specs.declared.wires.BoxWire.{BoxWire}
use Rattle.pd_misfits.specs.Shedding.{IsWired}
use Rattle.pd_misfits.proofs.WalkLemmas.{fan_once}
use Rattle.pd_turning.specs.Notes.{StandOnce}
use Rattle.pd_turning.proofs.NoteLemmas.{behind_told, last_noted, next_noted, other_noted, IsBehind}
use Rattle.pd_turning.proofs.noting.before_of.Goals as goal

pub returns-in_default : goal.returns-in_default
returns-in_default c = λ m at.
    let w = c.args.web.now in
    let ms = c.args.wires.now in
    let A = c.requires.wires in
    let W : IsWired w = record { fans = c.laws.ensures.fans; feeds = c.laws.ensures.feeds } in
    let once : StandOnce w = λ node outlet. fan_once w node outlet (c.laws.ensures.once node outlet) in
    let m' = c.index-wires-place.result in
    let is = same_Some m' m (sym (slice_get_read ms (length ms) c.args.place m' refl c.requires.within c.index-wires-place.is) ∙ at) in
    let r = behind_told w A.0 ms A.1 c.requires.order W once c.args.place m at c.key_behind.result (subst (λ (x : BoxWire). IsBehind w x c.key_behind.result) is c.key_behind.ensures) in
    last_noted w A.0 ms A.1 c.requires.order W once c.args.place m at (sym r ∙ c.in_default.is)

pub returns-then-is_key_at : goal.returns-then-is_key_at
returns-then-is_key_at c = λ m at.
    let w = c.args.web.now in
    let ms = c.args.wires.now in
    let A = c.requires.wires in
    let W : IsWired w = record { fans = c.laws.ensures.fans; feeds = c.laws.ensures.feeds } in
    let once : StandOnce w = λ node outlet. fan_once w node outlet (c.laws.ensures.once node outlet) in
    let m' = c.index-wires-place.result in
    let is = same_Some m' m (sym (slice_get_read ms (length ms) c.args.place m' refl c.requires.within c.index-wires-place.is) ∙ at) in
    let r = behind_told w A.0 ms A.1 c.requires.order W once c.args.place m at c.key_behind.result (subst (λ (x : BoxWire). IsBehind w x c.key_behind.result) is c.key_behind.ensures) in
    let n = c.is_key_at.ensures.yes c.if-is_key_at.true in
    next_noted w A.0 ms A.1 c.requires.order W once c.args.place m at c.in-Some.next n.0 c.args.later (sym r ∙ c.in-Some.is) n.1 n.2 (c.requires.later n.0 n.1)

pub returns : goal.returns
returns c = λ m at.
    let w = c.args.web.now in
    let ms = c.args.wires.now in
    let A = c.requires.wires in
    let W : IsWired w = record { fans = c.laws.ensures.fans; feeds = c.laws.ensures.feeds } in
    let once : StandOnce w = λ node outlet. fan_once w node outlet (c.laws.ensures.once node outlet) in
    let m' = c.index-wires-place.result in
    let is = same_Some m' m (sym (slice_get_read ms (length ms) c.args.place m' refl c.requires.within c.index-wires-place.is) ∙ at) in
    let r = behind_told w A.0 ms A.1 c.requires.order W once c.args.place m at c.key_behind.result (subst (λ (x : BoxWire). IsBehind w x c.key_behind.result) is c.key_behind.ensures) in
    other_noted w A.0 ms A.1 c.requires.order W once c.args.place m at c.in-Some.next (sym r ∙ c.in-Some.is) (c.is_key_at.ensures.no c.if-is_key_at.false)
