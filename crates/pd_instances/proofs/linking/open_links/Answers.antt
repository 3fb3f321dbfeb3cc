use Rattle.std.proofs.Common.{◌+◌, ℕ, List, IsTrue, length, map, take, drop, sym, ap, ◌∙◌, subst}
use Rattle.std.specs.List.{AllZip, flat_map}
use Rattle.std.proofs.lemmas.Bool.{false≢true}
use Rattle.std.proofs.lemmas.List.{take_all}
use Rattle.pd_links.specs.declared.opening.LinkRoom.{LinkRoom}
use Rattle.pd_grove.specs.TextOrder.{keys_of_spots}
use Rattle.pd_owning.specs.Bound.{is_among}
use Rattle.pd_instances.specs.Needs.{inside_at, AreLinkRooms}
use Rattle.pd_instances.proofs.LoopLemmas.{it, it_among, it_new, keys_left, keys_more}
use Rattle.pd_instances.proofs.OrderLemmas.{one_inside}
use Rattle.pd_instances.proofs.RowLemmas.{links_same, links_still, next_rows, none_still, rows_dropped, rows_left, taken_among, taken_more}
use Rattle.pd_instances.proofs.linking.open_links.Goals as goal

pub open_inside-requires-clause-board : goal.open_inside-requires-clause-board
open_inside-requires-clause-board c = λ d e. c.requires.boards (it c.args.spots.now c.loop-spot.spot-index c.loop-spot-test.true) d (it_among c.args.spots.now c.loop-spot.spot-index c.loop-spot-test.true) e

pub open_inside-requires-clause-room : goal.open_inside-requires-clause-room
open_inside-requires-clause-room c =
    let spots = c.args.spots.now in
    let i = c.loop-spot.spot-index in
    let low = c.loop-spot-test.true in
    let g = c.args.grove.now in
    let k : ℕ = it spots i low in
    next_rows (inside_at g k) (flat_map (inside_at g) (keys_of_spots (drop (i + 1) spots))) (map (λ v. v.items) c.loop-spot.rooms.items)
    (subst (λ ks. AllZip AreLinkRooms (flat_map (inside_at g) ks) (map (λ v. v.items) c.loop-spot.rooms.items)) (keys_left spots i low) c.loop-spot.invariant.rooms) (one_inside g k)

pub open_inside-requires-clause-reach : goal.open_inside-requires-clause-reach
open_inside-requires-clause-reach c = λ k live. c.loop-spot.invariant.keeps.reach (k + 1) (c.requires.reach k live)

pub open_inside-requires-clause-bare : goal.open_inside-requires-clause-bare
open_inside-requires-clause-bare c = λ d k e at.
    none_still c.args.links.now c.loop-spot.links k c.loop-spot.invariant.keeps
    (c.requires.bare (it c.args.spots.now c.loop-spot.spot-index c.loop-spot-test.true) d k (it_among c.args.spots.now c.loop-spot.spot-index c.loop-spot-test.true) e at)

pub loop-spot-init : goal.loop-spot-init
loop-spot-init c = record { keeps = links_same c.args.links.now; takes = λ x d t e. absurd (false≢true t); rooms = c.requires.rooms }

pub loop-spot-preserved : goal.loop-spot-preserved
loop-spot-preserved c =
    let spots = c.args.spots.now in
    let i = c.loop-spot.spot-index in
    let g = c.args.grove.now in
    let low = c.loop-spot-test.true in
    let k : ℕ = it spots i low in
    let ks = keys_of_spots (take i spots) in
    let inv = c.loop-spot.invariant in
    let E = c.open_inside.ensures in
    record {
      keeps = links_still c.args.links.now c.loop-spot.links c.open_inside.new.links inv.keeps E.keeps;
      takes = λ x d t e.
          taken_more g c.requires.own c.requires.alone c.loop-spot.links c.open_inside.new.links ks k (it_new spots i low c.requires.once) E.others E.none inv.takes E.takes x d
          (taken_among (keys_of_spots (take (i + 1) spots)) ks k x (keys_more spots i low) t) e;
      rooms =
          subst (λ (rs : List (List LinkRoom)). AllZip AreLinkRooms (flat_map (inside_at g) (keys_of_spots (drop (i + 1) spots))) rs)
          (sym (rows_dropped (λ v. v.items) (length (inside_at g k)) c.loop-spot.rooms.items) ∙ ap (map (λ v. v.items)) (sym E.rest))
          (rows_left (inside_at g k) (flat_map (inside_at g) (keys_of_spots (drop (i + 1) spots))) (map (λ v. v.items) c.loop-spot.rooms.items)
          (subst (λ xs. AllZip AreLinkRooms (flat_map (inside_at g) xs) (map (λ v. v.items) c.loop-spot.rooms.items)) (keys_left spots i low) inv.rooms));
    }

pub returns-clause-takes : goal.returns-clause-takes
returns-clause-takes c = λ x d t e.
    c.loop-spot.invariant.takes x d (subst (λ ps. IsTrue (is_among (keys_of_spots ps) x)) (sym (take_all c.loop-spot.spot-index c.args.spots.now c.loop-spot-test.false)) t) e
