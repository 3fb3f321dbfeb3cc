use Rattle.std.proofs.Common.{◌≡◌, ◌+◌, ℕ, List, map, take, drop, length, IsSome, sym, ap, ◌∙◌, subst, arith}
use Rattle.std.proofs.lemmas.List.{take_all, length-map}
use Rattle.slab.specs.Slab.{get}
use Rattle.pd_grove.specs.TextOrder.{keys_of_spots}
use Rattle.pd_web.specs.Jacks.{made_in}
use Rattle.pd_instances.specs.Needs.{need_at, AreRoomsFor}
use Rattle.pd_instances.specs.Layers.{IsNextRoom, OpensAll, PutsBlocks}
use Rattle.pd_instances.proofs.OpenLemmas.{open_none, open_more, blocks_none, blocks_more, next_room, rooms_left}
use Rattle.pd_instances.proofs.LoopLemmas.{none, it, keys_more, keys_left, it_among, it_new, all_at, still_bare, still_apart, blocks_reach}
use Rattle.pd_instances.proofs.opening.open_all.Goals as goal

pub open_next-requires-clause-here : goal.open_next-requires-clause-here
open_next-requires-clause-here c = all_at (λ k. IsSome (get c.args.grove.now.nodes k)) c.args.spots.now c.loop-spot.spot-index c.loop-spot-test.true c.requires.live

pub open_next-requires-clause-near : goal.open_next-requires-clause-near
open_next-requires-clause-near c = λ k live. c.loop-spot.invariant.room (k + 1) 0 0 (c.requires.near k live)

pub open_next-requires-clause-reach : goal.open_next-requires-clause-reach
open_next-requires-clause-reach c =
    let spots = c.args.spots.now in
    let i = c.loop-spot.spot-index in
    let low = c.loop-spot-test.true in
    let k : ℕ = it spots i low in
    let was = c.requires.reach k (all_at (λ x. IsSome (get c.args.grove.now.nodes x)) spots i low c.requires.live) in
    let a = length-map c.args.values.now.items (λ b. b.items) in
    let b = length-map c.loop-spot.values.items (λ b. b.items) in
    let n = blocks_reach c.args.grove.now (map (λ b. b.items) c.args.values.now.items) (map (λ b. b.items) c.loop-spot.values.items) (keys_of_spots (take i spots)) k
    c.loop-spot.invariant.blocks (it_new spots i low c.requires.once) (omega (arith, was, a)) in
    omega (arith, n, b)

pub open_next-requires-clause-room : goal.open_next-requires-clause-room
open_next-requires-clause-room c =
    let spots = c.args.spots.now in
    let i = c.loop-spot.spot-index in
    let g = c.args.grove.now in
    let low = c.loop-spot-test.true in
    next_room (need_at g (it spots i low)) (map (need_at g) (keys_of_spots (drop (i + 1) spots))) c.loop-spot.rooms.items
    (subst (λ ks. AreRoomsFor (map (need_at g) ks) c.loop-spot.rooms.items) (keys_left spots i low) c.loop-spot.invariant.rooms)

pub open_next-requires-clause-bare : goal.open_next-requires-clause-bare
open_next-requires-clause-bare c =
    let spots = c.args.spots.now in
    let i = c.loop-spot.spot-index in
    let low = c.loop-spot-test.true in
    still_bare c.args.grove.now c.args.web.now c.loop-spot.web (keys_of_spots (take i spots)) (it spots i low) c.loop-spot.invariant.opens (it_new spots i low c.requires.once)
    (λ side. c.requires.bare side (it spots i low) (it_among spots i low))

pub open_next-requires-clause-apart : goal.open_next-requires-clause-apart
open_next-requires-clause-apart c =
    let spots = c.args.spots.now in
    let i = c.loop-spot.spot-index in
    let low = c.loop-spot-test.true in
    still_apart c.args.grove.now c.args.web.now c.loop-spot.web (keys_of_spots (take i spots)) (it spots i low) c.loop-spot.invariant.opens (it_new spots i low c.requires.once)
    c.requires.alone (λ j n R. c.requires.apart j (it spots i low) n (it_among spots i low) R)

pub loop-spot-init : goal.loop-spot-init
loop-spot-init c = record {
  opens = open_none c.args.grove.now c.args.web.now;
  blocks = blocks_none c.args.grove.now (map (λ b. b.items) c.args.values.now.items);
  room = λ k p n r. r;
  rooms = c.requires.rooms;
}

pub loop-spot-preserved : goal.loop-spot-preserved
loop-spot-preserved c =
    let spots = c.args.spots.now in
    let i = c.loop-spot.spot-index in
    let g = c.args.grove.now in
    let low = c.loop-spot-test.true in
    let k : ℕ = it spots i low in
    let ks = keys_of_spots (take i spots) in
    let inv = c.loop-spot.invariant in
    let new = it_new spots i low c.requires.once in
    let E = c.open_next.ensures in
    record {
      opens = subst (λ xs. OpensAll g c.args.web.now c.open_next.new.web xs) (sym (keys_more spots i low))
          (open_more g c.args.web.now c.loop-spot.web c.open_next.new.web ks k inv.opens E.ports E.homes new c.requires.alone
          (c.port_boxes_stay_known.ensures.opened g c.loop-spot.web c.open_next.new.web k (made_in (get g.nodes k)) c.requires.own E.ports E.homes
          (still_bare g c.args.web.now c.loop-spot.web ks k inv.opens new (λ side. c.requires.bare side k (it_among spots i low)))
          (still_apart g c.args.web.now c.loop-spot.web ks k inv.opens new c.requires.alone (λ j n R. c.requires.apart j k n (it_among spots i low) R))));
      blocks = subst (λ xs. PutsBlocks g (map (λ b. b.items) c.args.values.now.items) (map (λ b. b.items) c.open_next.new.values.items) xs) (sym (keys_more spots i low))
          (blocks_more g (map (λ b. b.items) c.args.values.now.items) (map (λ b. b.items) c.loop-spot.values.items) (map (λ b. b.items) c.open_next.new.values.items) ks k inv.blocks new E.blocks);
      room = λ a p n r. E.room a p n (inv.room a p n r);
      rooms = subst (λ rs. AreRoomsFor (map (need_at g) (keys_of_spots (drop (i + 1) spots))) rs) (sym E.rest)
          (rooms_left (need_at g k) (map (need_at g) (keys_of_spots (drop (i + 1) spots))) c.loop-spot.rooms.items
          (subst (λ xs. AreRoomsFor (map (need_at g) xs) c.loop-spot.rooms.items) (keys_left spots i low) inv.rooms));
    }

pub returns-clause-opens : goal.returns-clause-opens
returns-clause-opens c =
    subst (λ ps. OpensAll c.args.grove.now c.args.web.now c.loop-spot.web (keys_of_spots ps)) (take_all c.loop-spot.spot-index c.args.spots.now c.loop-spot-test.false) c.loop-spot.invariant.opens

pub returns-clause-blocks : goal.returns-clause-blocks
returns-clause-blocks c =
    subst (λ ps. PutsBlocks c.args.grove.now (map (λ b. b.items) c.args.values.now.items) (map (λ b. b.items) c.loop-spot.values.items) (keys_of_spots ps))
    (take_all c.loop-spot.spot-index c.args.spots.now c.loop-spot-test.false) c.loop-spot.invariant.blocks
