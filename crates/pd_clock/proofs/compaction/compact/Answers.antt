use Rattle.std.proofs.Common.{◌≡◌, rules, true, ap, sym, ◌∙◌, subst, length}
use Rattle.std.specs.List.{filter, AllByRecursion}
use Rattle.std.specs.BinaryHeap.{heap_items}
use Rattle.std.proofs.lemmas.Fn.{filter_same}
use Rattle.pd_clock.specs.declared.slots.Slot.{Slot}
use Rattle.pd_clock.specs.Index.{IsIndexOf, place_of}
use Rattle.pd_clock.specs.Queue.{AreApart}
use Rattle.pd_clock.specs.Slots.{AreKeys, live_clocks}
use Rattle.pd_clock.proofs.HeapLemmas.{live-filter, length-live}
use Rattle.pd_clock.proofs.IndexLemmas.{all_live}
use Rattle.pd_clock.proofs.compaction.compact.Goals as goal

pub note_all-requires-clause-live : goal.note_all-requires-clause-live
note_all-requires-clause-live c =
    let e : c.retain.new.self.items ≡ filter (λ (s : Slot). s.live) c.args.slots.now.items =
    filter_same _ _ _ (λ x b f' k. search rules) _ _ c.retain.ensures.filtered in
    subst (AllByRecursion (λ s. s.live ≡ true)) (sym (c.deref-2.ensures.value ∙ e)) (all_live c.args.slots.now.items)

pub note_all-requires-clause-apart : goal.note_all-requires-clause-apart
note_all-requires-clause-apart c =
    let e : c.retain.new.self.items ≡ filter (λ (s : Slot). s.live) c.args.slots.now.items =
    filter_same _ _ _ (λ x b f' k. search rules) _ _ c.retain.ensures.filtered in
    let same : live_clocks c.deref-2.result.now ≡ live_clocks c.args.slots.now.items =
    ap live_clocks (c.deref-2.ensures.value ∙ e) ∙ live-filter c.args.slots.now.items in
    subst AreApart (sym same) c.requires.apart

pub returns-clause-keys : goal.returns-clause-keys
returns-clause-keys c = subst (λ v. AreKeys v (heap_items c.fill.new.heap)) c.deref.ensures.value c.fill.ensures.keys

pub returns-clause-places : goal.returns-clause-places
returns-clause-places c = subst (IsIndexOf (place_of c.note_all.new.places)) c.deref-2.ensures.value c.note_all.ensures.places

pub returns-clause-clocks : goal.returns-clause-clocks
returns-clause-clocks c =
    let e : c.retain.new.self.items ≡ filter (λ (s : Slot). s.live) c.args.slots.now.items =
    filter_same _ _ _ (λ x b f' k. search rules) _ _ c.retain.ensures.filtered in
    ap live_clocks e ∙ live-filter c.args.slots.now.items

pub returns-clause-len : goal.returns-clause-len
returns-clause-len c =
    let e : c.retain.new.self.items ≡ filter (λ (s : Slot). s.live) c.args.slots.now.items =
    filter_same _ _ _ (λ x b f' k. search rules) _ _ c.retain.ensures.filtered in
    ap length e ∙ length-live c.args.slots.now.items
