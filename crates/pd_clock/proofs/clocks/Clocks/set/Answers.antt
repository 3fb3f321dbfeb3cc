use Rattle.std.proofs.Common.{◌≡◌, ◌<◌, ◌⊎◌, ◌∙◌, true, [], ◌∷◌, length, length-append, arith, refl, sym, ap, subst}
use Rattle.std.specs.BinaryHeap.{heap_items}
use Rattle.pd_clock.specs.declared.slots.Slot.{Slot}
use Rattle.pd_clock.specs.Index.{IsIndexOf, IsNoted, place_of}
use Rattle.pd_clock.specs.Queue.{AreApart, clocks_of}
use Rattle.pd_clock.specs.Slots.{AreTracked, AreKeys, live_clocks}
use Rattle.pd_clock.proofs.HeapLemmas.{tracked_dead, keys_dead}
use Rattle.pd_clock.proofs.IndexLemmas.{index_dead, index_more, noted_by}
use Rattle.pd_clock.proofs.QueueLemmas.{apart_set, apart_without, has_space, without-none}
use Rattle.pd_clock.proofs.clocks.Clocks.set.Goals as goal

pub make_room-requires-clause-tracked : goal.make_room-requires-clause-tracked
make_room-requires-clause-tracked c =
    let keys = heap_items c.self.inside.heap in
    subst (AreTracked keys 0) (sym c.kill_owner.ensures.items) (tracked_dead keys c.args.owner 0 c.self.inside.slots.items c.self.invariant.tracked)

pub make_room-requires-clause-keys : goal.make_room-requires-clause-keys
make_room-requires-clause-keys c =
    let keys = heap_items c.self.inside.heap in
    subst (λ v. AreKeys v keys) (sym c.kill_owner.ensures.items) (keys_dead keys c.args.owner c.self.inside.slots.items c.self.invariant.keys)

pub make_room-requires-clause-space : goal.make_room-requires-clause-space
make_room-requires-clause-space c =
    let room = subst (λ v. (0 < clocks_of c.args.owner v.clocks) ⊎ (length v.clocks < v.room)) (sym c.self.view_is) c.requires in
    let h =
    has_space c.args.owner c.self.inside.room (live_clocks c.self.inside.slots.items) (live_clocks c.kill_owner.new.slots.items) c.kill_owner.ensures.clocks
    c.self.invariant.few room in
    omega arith

pub make_room-requires-clause-apart : goal.make_room-requires-clause-apart
make_room-requires-clause-apart c =
    subst AreApart (sym c.kill_owner.ensures.clocks) (apart_without c.args.owner (live_clocks c.self.inside.slots.items) c.self.invariant.apart)

pub make_room-requires-clause-places : goal.make_room-requires-clause-places
make_room-requires-clause-places c =
    let at = place_of c.self.inside.places in
    subst (IsIndexOf at) (sym c.kill_owner.ensures.items) (index_dead at c.args.owner c.self.inside.slots.items c.self.invariant.places)

pub invariant_of-self : goal.invariant_of-self
invariant_of-self c =
    let room = subst (λ v. (0 < clocks_of c.args.owner v.clocks) ⊎ (length v.clocks < v.room)) (sym c.self.view_is) c.requires in
    let h =
    has_space c.args.owner c.self.inside.room (live_clocks c.self.inside.slots.items) (live_clocks c.kill_owner.new.slots.items) c.kill_owner.ensures.clocks
    c.self.invariant.few room in
    let l = ap length c.make_room.ensures.clocks in
    let ss = c.make_room.new.slots.items in
    let at = place_of c.make_room.new.places in
    let after = place_of c.note.new.places in
    let slot : Slot = record { time = c.units.result; owner = c.args.owner; live = true } in
    let none : clocks_of c.args.owner (live_clocks ss) ≡ 0 =
    subst (λ v. clocks_of c.args.owner v ≡ 0) (sym (c.make_room.ensures.clocks ∙ c.kill_owner.ensures.clocks))
    (without-none c.args.owner (live_clocks c.self.inside.slots.items)) in
    let last : c.len.result ≡ length ss = omega (arith, c.make_room.new.slots.ok, c.len.ensures) in
    let noted = subst (IsNoted at after c.args.owner) last (noted_by at after c.args.owner c.len.result c.note.ensures.noted) in
    record {
      apart = rw (c.add.ensures.clocks, c.make_room.ensures.clocks, c.kill_owner.ensures.clocks) (apart_set c.args.owner (live_clocks c.self.inside.slots.items) _ c.self.invariant.apart refl);
      few = rw c.add.ensures.clocks (omega (arith, length-append (live_clocks ss) (record { time = c.units.result; owner = c.args.owner } ∷ [])));
      space = omega arith;
      ordered = c.add.ensures.order;
      tracked = c.add.ensures.tracked;
      keys = c.add.ensures.keys;
      fits = omega arith;
      caps = omega arith;
      places = subst (IsIndexOf after) (sym c.add.ensures.items) (index_more at after ss slot none noted c.make_room.ensures.places);
      places_fit = omega (arith, c.note.ensures.len, c.make_room.ensures.places_fit, c.add.ensures.len);
      places_caps = omega (arith, c.note.ensures.capacity, c.make_room.ensures.places_caps, c.add.ensures.capacity);
    }
