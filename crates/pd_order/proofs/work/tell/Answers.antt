use Rattle.std.proofs.Common.{◌≡◌, ℕ, ◌<◌, ◌≤◌, [], ◌∷◌, ◌++◌, length, take, arith, ◌∙◌}
use Rattle.pd_order.specs.Graph.{Graph, tally, IsLawful}
use Rattle.pd_order.specs.Spots.{nodes_of, mark_in}
use Rattle.pd_order.specs.Work.{IsAtWork}
use Rattle.pd_order.proofs.SpotLemmas.{length-nodes}
use Rattle.pd_order.proofs.WorkLemmas.{room_in_heap, room_in_spare, told_one, still_held, follower_not_out, feeds_follower, still_known, told_only}
use Rattle.pd_order.proofs.work.tell.Goals as goal

pub meet-requires-clause-there : goal.meet-requires-clause-there
meet-requires-clause-there g c =
    let G : Graph = g.G.SignalGraph.meaning c.args.graph.now in
    c.requires.lawful.sinks c.follower-follower.result c.args.node
    (feeds_follower G (nodes_of c.args.spots.now) c.args.node c.follower-follower.result c.args.i c.requires.lawful c.requires.there c.follower-follower.ensures.item)

pub meet-requires-clause-heap_room : goal.meet-requires-clause-heap_room
meet-requires-clause-heap_room g c = λ z.
    let r : length c.args.heap.now.items < length (nodes_of c.args.spots.now) =
    room_in_heap _ _ _ _ _ _ _ _ c.follower-follower.result c.requires.work (λ m. absurd (omega arith)) (meet-requires-clause-there g c) in
    let n : length (nodes_of c.args.spots.now) ≡ length c.args.spots.now = length-nodes c.args.spots.now in
    let k = c.args.heap.now.ok in omega arith

pub meet-requires-clause-spare_room : goal.meet-requires-clause-spare_room
meet-requires-clause-spare_room g c = λ z.
    let r : length c.args.spare.now.items < length (nodes_of c.args.spots.now) =
    room_in_spare _ _ _ _ _ _ _ _ c.follower-follower.result c.requires.work z (meet-requires-clause-there g c) in
    let n : length (nodes_of c.args.spots.now) ≡ length c.args.spots.now = length-nodes c.args.spots.now in
    let k = c.args.spare.now.ok in omega arith

pub lower-requires : goal.lower-requires
lower-requires g c =
    let G : Graph = g.G.SignalGraph.meaning c.args.graph.now in
    let f : ℕ = c.follower-follower.result in
    let fed : 0 < tally c.args.node (G.feeders f) = feeds_follower G (nodes_of c.args.spots.now) c.args.node f c.args.i c.requires.lawful c.requires.there c.follower-follower.ensures.item in
    let w : IsAtWork G (nodes_of c.meet.new.spots) c.args.listed.now (c.args.listed.now ++ c.args.node ∷ []) (take c.args.i (G.followers c.args.node)) (mark_in c.meet.new.spots) c.meet.new.heap.items c.meet.new.spare.items =
    c.meet.ensures.work (c.args.listed.now ++ c.args.node ∷ []) (take c.args.i (G.followers c.args.node)) c.requires.work
    (λ _. follower_not_out G c.args.listed.now c.args.node f c.requires.going fed) in
    let law : IsLawful G (nodes_of c.meet.new.spots) = rw c.meet.ensures.nodes c.requires.lawful in
    let two : 2 ≤ mark_in c.meet.new.spots f = still_held G (nodes_of c.meet.new.spots) c.args.listed.now _ (mark_in c.meet.new.spots) c.meet.new.heap.items c.meet.new.spare.items c.args.node f c.args.i law w c.requires.going.unlisted c.requires.there c.follower-follower.ensures.item c.meet.ensures.known in
    let there : 0 < tally f (nodes_of c.meet.new.spots) = rw c.meet.ensures.nodes (c.requires.lawful.sinks f c.args.node fed) in
    record {
      by_node = c.meet.ensures.by_node;
      there = there;
      held = c.meet.ensures.known;
      heap = w.is_heap;
      heap_room = let r : length c.meet.new.heap.items < length (nodes_of c.meet.new.spots) =
          room_in_heap _ _ _ _ _ _ _ _ f w (λ m. absurd (omega arith)) there in
          let n : length (nodes_of c.meet.new.spots) ≡ length c.args.spots.now = rw c.meet.ensures.nodes (length-nodes c.args.spots.now) in
          let k = c.meet.new.heap.ok in let p = c.meet.ensures.heap_capacity in let q = c.requires.heap_room in omega arith;
    }

pub returns : goal.returns
returns g c =
    let G : Graph = g.G.SignalGraph.meaning c.args.graph.now in
    let f : ℕ = c.follower-follower.result in
    let fed : 0 < tally c.args.node (G.feeders f) = feeds_follower G (nodes_of c.args.spots.now) c.args.node f c.args.i c.requires.lawful c.requires.there c.follower-follower.ensures.item in
    let w : IsAtWork G (nodes_of c.meet.new.spots) c.args.listed.now (c.args.listed.now ++ c.args.node ∷ []) (take c.args.i (G.followers c.args.node)) (mark_in c.meet.new.spots) c.meet.new.heap.items c.meet.new.spare.items =
    c.meet.ensures.work (c.args.listed.now ++ c.args.node ∷ []) (take c.args.i (G.followers c.args.node)) c.requires.work
    (λ _. follower_not_out G c.args.listed.now c.args.node f c.requires.going fed) in
    let law : IsLawful G (nodes_of c.meet.new.spots) = rw c.meet.ensures.nodes c.requires.lawful in
    let two : 2 ≤ mark_in c.meet.new.spots f = still_held G (nodes_of c.meet.new.spots) c.args.listed.now _ (mark_in c.meet.new.spots) c.meet.new.heap.items c.meet.new.spare.items c.args.node f c.args.i law w c.requires.going.unlisted c.requires.there c.follower-follower.ensures.item c.meet.ensures.known in
    record {
      by_node = c.lower.ensures.by_node;
      nodes = c.lower.ensures.nodes ∙ c.meet.ensures.nodes;
      places = λ x. c.lower.ensures.places x ∙ c.meet.ensures.places x;
      known = still_known (mark_in c.args.spots.now) (mark_in c.meet.new.spots) (mark_in c.lower.new.spots) f c.meet.ensures.others two c.lower.ensures.marks;
      work = rw c.lower.ensures.nodes (told_one G (nodes_of c.meet.new.spots) c.args.listed.now (mark_in c.meet.new.spots) (mark_in c.lower.new.spots) c.meet.new.heap.items c.lower.new.heap.items c.meet.new.spare.items c.args.node f c.args.i
          law w c.requires.going c.requires.there c.follower-follower.ensures.item c.meet.ensures.known c.lower.ensures.marks c.lower.ensures.more c.lower.ensures.heap);
      only = λ x. told_only G (mark_in c.args.spots.now) (mark_in c.meet.new.spots) (mark_in c.lower.new.spots) c.args.node f x fed (c.meet.ensures.only x) (c.lower.ensures.marks x);
      heap_capacity = c.lower.ensures.heap_capacity ∙ c.meet.ensures.heap_capacity;
      spare_capacity = c.meet.ensures.spare_capacity;
      steps = (let a = c.meet.ensures.steps in let b = c.follower-follower.ensures.step in omega arith);
    }
